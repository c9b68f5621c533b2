use Rattle.std.specs.Prelude.{◌≡◌, ◌∷◌, [], if◌then◌else◌, List}
use Rattle.std.proofs.Common.{ap, ◌∙◌, subst, sym}
use Rattle.std.proofs.lemmas.Result.{IfOk-weaker}
use Rattle.dk_base.specs.Values.{values_of}
use Rattle.dk_base.specs.declared.values.Value.{Value}
use Rattle.dk_forms.specs.declared.states.State.{State}
use Rattle.dk_instances.proofs.Whole.{is_tuple}
use Rattle.dk_instances.specs.Fits.{is_whole, tuple_in}
use Rattle.dk_instances.specs.Laws.{IsSample}
use Rattle.dk_meanings.specs.Meanings.{state_of}
use Rattle.dk_template.specs.Joins.{joined}
use Rattle.dk_template.specs.Rows.{IsTuple}
use Rattle.dk_template.specs.Templates.{form_of, role_kinds}
use Rattle.dk_engine.specs.Feeding.{with_sample}
use Rattle.dk_engine.specs.Reading.Levels.{OneMore}
use Rattle.dk_engine.proofs.feed.after.After.with_values.Goals as goal

pub with_tuple-requires-clause-tuple : goal.with_tuple-requires-clause-tuple
with_tuple-requires-clause-tuple c whole =
    let o : OneMore = c.args.self.now in
    let is : IsSample o.whole.infos o.sample = subst (λ (a : OneMore). IsSample a.whole.infos a.sample) c.self.view_is c.self.invariant in
    let same : values_of c.args.tuple.now ≡ tuple_in c.args.vars.now o.sample = c.requires.tuple in
    subst (IsTuple (role_kinds c.args.row)) (sym same) (is_tuple o.whole.infos o.sample is c.args.row c.args.vars.now c.requires.vars (ap is_whole (sym same) ∙ whole))

pub returns-clause-state : goal.returns-clause-state
returns-clause-state c =
    let o : OneMore = c.args.self.now in
    let row = c.args.row in
    let joining : State → List Value → State = λ s t. if is_whole t then joined (form_of row) s (state_of row (t ∷ [])) else s in
    let told : joining c.args.before (values_of c.args.tuple.now) ≡ with_sample row c.args.vars.now o.sample c.args.before = ap (joining c.args.before) c.requires.tuple in
    IfOk-weaker c.with_tuple.result (λ s. s ≡ joining c.args.before (values_of c.args.tuple.now)) (λ s. s ≡ with_sample row c.args.vars.now o.sample c.args.before) (λ s e. e ∙ told) c.with_tuple.ensures.state

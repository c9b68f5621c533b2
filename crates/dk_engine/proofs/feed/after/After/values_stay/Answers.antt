use Rattle.std.specs.Prelude.{◌≡◌, ◌∷◌, [], if◌then◌else◌, List}
use Rattle.std.proofs.Common.{ap, ◌∙◌, subst, sym}
use Rattle.dk_base.specs.Values.{values_of}
use Rattle.dk_base.specs.declared.values.Value.{Value}
use Rattle.dk_forms.specs.declared.states.State.{State}
use Rattle.dk_instances.proofs.Whole.{is_tuple}
use Rattle.dk_instances.specs.Fits.{is_whole, tuple_in}
use Rattle.dk_instances.specs.Laws.{IsSample}
use Rattle.dk_meanings.specs.Meanings.{state_of}
use Rattle.dk_template.specs.Joins.{joined}
use Rattle.dk_template.specs.Rows.{IsTuple}
use Rattle.dk_template.specs.Templates.{form_of, role_kinds}
use Rattle.dk_engine.specs.Reading.Levels.{OneMore}
use Rattle.dk_engine.proofs.feed.after.After.values_stay.Goals as goal

pub tuple_stays-requires-clause-tuple : goal.tuple_stays-requires-clause-tuple
tuple_stays-requires-clause-tuple c whole =
    let o : OneMore = c.args.self.now in
    let is : IsSample o.whole.infos o.sample = c.requires.sampled in
    let same : values_of c.args.tuple.now ≡ tuple_in c.args.vars.now o.sample = c.requires.tuple in
    subst (IsTuple (role_kinds c.args.row)) (sym same) (is_tuple o.whole.infos o.sample is c.args.row c.args.vars.now c.requires.vars (ap is_whole (sym same) ∙ whole))

pub returns : goal.returns
returns c =
    let o : OneMore = c.args.self.now in
    let row = c.args.row in
    let joining : State → List Value → State = λ s t. if is_whole t then joined (form_of row) s (state_of row (t ∷ [])) else s in
    let told = ap (joining c.args.state.now) c.requires.tuple in
    (λ stays. sym told ∙ c.tuple_stays.ensures.0 stays, λ stays. c.tuple_stays.ensures.1 (told ∙ stays))

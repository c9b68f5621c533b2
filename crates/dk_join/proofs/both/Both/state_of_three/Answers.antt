use Rattle.std.specs.Prelude.{◌≡◌, ◌∷◌, [], List}
use Rattle.std.proofs.Common.{◌∙◌, ap, sym}
use Rattle.std.proofs.lemmas.Bool.{false≢true}
use Rattle.std.proofs.lemmas.Result.{IfOk-weaker, on_err_weaker}
use Rattle.dk_base.specs.declared.kinds.VarId.{VarId}
use Rattle.dk_engine.proofs.Readings.{row_is}
use Rattle.dk_engine.specs.Reading.{state_read}
use Rattle.dk_forms.specs.declared.states.State.TheVariants.{Broken}
use Rattle.dk_template.proofs.Absorbing.{broken_absorbs}
use Rattle.dk_template.specs.Joins.{joined}
use Rattle.dk_template.specs.Templates.{form_of}
use Rattle.dk_template.specs.declared.templates.Template.{Template}
use Rattle.dk_join.proofs.Answering.{texts_may_want}
use Rattle.dk_join.specs.Joining.{Pair, read_joined}
use Rattle.dk_join.proofs.both.Both.state_of_three.Goals as goal
use Rattle.dk_join.proofs.both.Both.state_of_three.Goals.{in-Broken, in_default}

pub returns-then-matches-clause-state : goal.returns-then-matches-clause-state
unfolding read_joined
returns-then-matches-clause-state c =
    let pair : Pair = c.args.self.now in
    let row = c.args.row in
    let vars : List VarId = c.args.v.var ∷ c.args.w.var ∷ c.args.x.var ∷ [] in
    let told : c.first.result.var ∷ c.first-2.result.var ∷ c.first-3.result.var ∷ [] ≡ vars =
    λ i. (c.first.ensures i).var ∷ (c.first-2.ensures i).var ∷ (c.first-3.ensures i).var ∷ [] in
    let before : c.in_ok-state.state ≡ state_read pair.first.kept row vars =
    c.in_ok-state.ensures.state ∙ (ap (state_read c.self.inside.first.engine.now.kept row) told ∙ ap (λ (p : Pair). state_read p.first.kept row vars) c.self.view_is) in
    let gone : c.in_ok-state.state ≡ Broken = elim c.match-matches.branch as (λ _. c.in_ok-state.state ≡ Broken) [
      | in-Broken w ↦ w.in-Broken.is
      | in_default w ↦ absurd (false≢true (sym w.matches-is ∙ c.if-matches.true))
    ] in
    sym (ap (λ s. joined (form_of row) s (state_read pair.second.kept row vars)) (sym before ∙ gone) ∙ broken_absorbs (form_of row) (state_read pair.second.kept row vars))

pub returns-clause-state : goal.returns-clause-state
unfolding read_joined
returns-clause-state c =
    let pair : Pair = c.args.self.now in
    let row = c.args.row in
    let vars : List VarId = c.args.v.var ∷ c.args.w.var ∷ c.args.x.var ∷ [] in
    let told : c.first.result.var ∷ c.first-2.result.var ∷ c.first-3.result.var ∷ [] ≡ vars =
    λ i. (c.first.ensures i).var ∷ (c.first-2.ensures i).var ∷ (c.first-3.ensures i).var ∷ [] in
    let also : c.second.result.var ∷ c.second-2.result.var ∷ c.second-3.result.var ∷ [] ≡ vars =
    λ i. (c.second.ensures i).var ∷ (c.second-2.ensures i).var ∷ (c.second-3.ensures i).var ∷ [] in
    let state = c.in_ok-state.state in
    let other = c.in_ok-other.other in
    let before : state ≡ state_read pair.first.kept row vars =
    c.in_ok-state.ensures.state ∙ (ap (state_read c.self.inside.first.engine.now.kept row) told ∙ ap (λ (p : Pair). state_read p.first.kept row vars) c.self.view_is) in
    let behind : other ≡ state_read pair.second.kept row vars =
    c.in_ok-other.ensures.state ∙ (ap (state_read c.self.inside.second.engine.now.kept row) also ∙ ap (λ (p : Pair). state_read p.second.kept row vars) c.self.view_is) in
    IfOk-weaker c.join_states.result (λ s. s ≡ joined c.template_at.result.form state other) (λ s. s ≡ joined (form_of row) (state_read pair.first.kept row vars) (state_read pair.second.kept row vars))
    (λ s e. e ∙ (ap (λ (t : Template). joined t.form state other) c.template_at.ensures ∙ (ap (λ t. joined (form_of row) t other) before ∙ ap (joined (form_of row) (state_read pair.first.kept row vars)) behind))) c.join_states.ensures.state

pub returns-clause-err : goal.returns-clause-err
returns-clause-err c =
    on_err_weaker c.join_states.result
    (λ e. texts_may_want c.args.row (row_is c.args.self.now.first.grammar c.args.row c.requires.row) (ap (λ (t : Template). t.form) (sym c.template_at.ensures) ∙ e))
    c.join_states.ensures.err

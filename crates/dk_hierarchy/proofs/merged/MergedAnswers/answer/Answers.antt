use Rattle.std.specs.Prelude.{◌≡◌, ◌+◌, List, OnErr, Result, Ok, Err, drop}
use Rattle.std.proofs.Common.{◌∙◌, ap, get_or, sym}
use Rattle.std.proofs.lemmas.Bool.{false≢true}
use Rattle.dk_engine.proofs.Readings.{row_is}
use Rattle.dk_forms.specs.declared.states.State.TheVariants.{Broken, Empty}
use Rattle.dk_template.specs.Joins.{joined}
use Rattle.dk_template.specs.Premises.{MayWantMemory}
use Rattle.dk_template.specs.Templates.{form_of}
use Rattle.dk_template.specs.declared.templates.Template.{Template}
use Rattle.dk_hierarchy.proofs.Answering.{empty_is_proper, joined_more, texts_may_want}
use Rattle.dk_hierarchy.proofs.Joining.{broken_stays}
use Rattle.dk_hierarchy.specs.Merging.{merged_state, state_through, states_joined}
use Rattle.dk_hierarchy.specs.declared.way.Way.{Way}
use Rattle.dk_hierarchy.proofs.merged.MergedAnswers.answer.Goals as goal
use Rattle.dk_hierarchy.proofs.merged.MergedAnswers.answer.Goals.{in-Broken, in_default}

pub loop-way-init : goal.loop-way-init
unfolding merged_state
loop-way-init c = (ap (states_joined c.args.self.now c.args.row c.args.vars.now Empty) c.ways-ways.ensures.ways, empty_is_proper c.args.row)

on_err : {A E : Type 0} (r : Result A E) (P : Type 0) → P → OnErr r P
on_err (Ok x) P p = tt
on_err (Err e) P p = p

pub returns-in_err-state-clause-err : goal.returns-in_err-state-clause-err
returns-in_err-state-clause-err c =
    on_err c.from_residual-in_err-state.result (MayWantMemory c.args.row)
    (texts_may_want c.args.row (row_is c.args.self.now.here.grammar c.args.row c.requires.row) (sym (ap (λ (t : Template). t.form) c.template_at-form.ensures) ∙ c.in_err-state.ensures.err))

pub returns-then-matches-clause-state : goal.returns-then-matches-clause-state
returns-then-matches-clause-state c =
    let joint = c.args.self.now in
    let row = c.args.row in
    let vars = c.args.vars.now in
    let i = c.loop-way.way-index in
    let ways : List Way = c.ways-ways.result.now in
    let d : Way = c.way-item.result in
    let state = c.loop-way.state in
    let broken : c.in_ok-state.state ≡ Broken = elim c.match-matches.branch as (λ _. c.in_ok-state.state ≡ Broken) [
      | in-Broken w ↦ w.in-Broken.is
      | in_default w ↦ absurd (false≢true (sym w.matches-is ∙ c.if-matches.true))
    ] in
    let form = ap (λ (t : Template). t.form) c.template_at-form.ensures in
    let next : c.in_ok-state.state ≡ joined (form_of row) state (state_through joint row vars (get_or ways i d)) =
    c.in_ok-state.ensures.state
    ∙ (ap (λ f. joined f state c.in_ok-there.there) form ∙ ap (joined (form_of row) state) (c.in_ok-there.ensures.state ∙ ap (state_through joint row vars) c.way-item.is)) in
    broken
    ∙ sym (sym c.loop-way.invariant.0
    ∙ (joined_more joint row vars state ways i d c.loop-way-test.true
    ∙ (ap (λ s. states_joined joint row vars s (drop (i + 1) ways)) (sym next ∙ broken) ∙ broken_stays joint row vars (drop (i + 1) ways))))

use Rattle.std.specs.Prelude.{◌≡◌}
use Rattle.std.proofs.Common.{◌∙◌, ap, rules, sym}
use Rattle.std.proofs.lemmas.Bool.{false≢true}
use Rattle.std.proofs.lemmas.Result.{IfOk-weaker}
use Rattle.dk_engine.specs.Reading.{state_read}
use Rattle.dk_forms.specs.declared.states.State.TheVariants.{Broken}
use Rattle.dk_template.proofs.Absorbing.{broken_absorbs}
use Rattle.dk_template.specs.Joins.{joined}
use Rattle.dk_template.specs.Templates.{form_of}
use Rattle.dk_join.specs.Joining.{Pair, read_joined}
use Rattle.dk_join.proofs.both.Both.state.Goals as goal
use Rattle.dk_join.proofs.both.Both.state.Goals.{in-Broken, in_default}

pub returns-then-matches-clause-state : goal.returns-then-matches-clause-state
unfolding read_joined
returns-then-matches-clause-state c =
    let pair : Pair = c.args.self.now in
    let row = c.args.row in
    let vars = c.args.vars.now in
    let before : c.in_ok-state.state ≡ state_read pair.first.kept row vars = search rules in
    let broken : c.in_ok-state.state ≡ Broken = elim c.match-matches.branch as (λ _. c.in_ok-state.state ≡ Broken) [
      | in-Broken w ↦ w.in-Broken.is
      | in_default w ↦ absurd (false≢true (sym w.matches-is ∙ c.if-matches.true))
    ] in
    sym (ap (λ s. joined (form_of row) s (state_read pair.second.kept row vars)) (sym before ∙ broken) ∙ broken_absorbs (form_of row) (state_read pair.second.kept row vars))

pub returns-clause-state : goal.returns-clause-state
unfolding read_joined
returns-clause-state c =
    let pair : Pair = c.args.self.now in
    let row = c.args.row in
    let vars = c.args.vars.now in
    let other = state_read pair.second.kept row vars in
    let before : c.in_ok-state.state ≡ state_read pair.first.kept row vars = search rules in
    IfOk-weaker c.with_second.result (λ s. s ≡ joined (form_of row) c.in_ok-state.state other) (λ s. s ≡ joined (form_of row) (state_read pair.first.kept row vars) other)
    (λ s e. e ∙ ap (λ t. joined (form_of row) t other) before) c.with_second.ensures.state

use Rattle.std.specs.Prelude.{Some}
use Rattle.std.proofs.Common.{◌∙◌, ap}
use Rattle.std.proofs.lemmas.Option.{none-some, same_Some}
use Rattle.dk_forms.specs.declared.states.State.TheVariants as state
use Rattle.dk_expr.proofs.Stated.{numbers_found}
use Rattle.dk_expr.proofs.states.ints.Goals as goal
use Rattle.dk_expr.proofs.states.ints.Goals.{in-Some, in-None}

pub returns-clause-read : goal.returns-clause-read
returns-clause-read c ks fit some few is =
    let own = c.as_slice.ensures ∙ numbers_found c.args.bytes.now c.in_ok-texts.texts ks c.in_ok-texts.ensures fit some few is in
    elim c.match-ints_of.branch [
      | in-Some w ↦ w.result-is ∙ ap (λ l. Some (state.Ints l)) (same_Some _ _ (w.in-Some.ensures.read ks fit few own))
      | in-None w ↦ absurd (none-some _ (w.in-None.ensures.read ks fit few own))
    ]

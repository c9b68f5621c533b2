use Rattle.std.specs.Prelude.{ℕ, Some}
use Rattle.std.proofs.Common.{◌∙◌, ap, arith}
use Rattle.dk_state.proofs.front.Front.place.Goals as goal

pub returns-clause-read : goal.returns-clause-read
returns-clause-read c n rest small first is =
    let natural = c.natural.ensures.read n rest (omega arith) first is in
    let found = c.or_give_up.ensures.read n (c.in_u32-number.ensures (omega (arith, natural.0, small)) ∙ ap (λ (m : ℕ). Some m) natural.0) in
    (found.0, found.1 ∙ natural.1)

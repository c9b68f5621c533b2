use Rattle.std.specs.Prelude.{◌≡◌, ℤ, IsTrue, Some}
use Rattle.std.proofs.Common.{◌∙◌, ap, subst, sym, of_z, to_z, w64}
use Rattle.std.proofs.lemmas.Int.{to_z-of_z}
use Rattle.dk_base.specs.Numbers.{fits_i64}
use Rattle.dk_state.proofs.Plain.{small_whole}
use mir.Syntax.{w128}
use Rattle.dk_state.proofs.front.Front.integer.Goals as goal

pub returns-clause-read : goal.returns-clause-read
returns-clause-read c z rest fits first is =
    let wide = c.wide.ensures.read z rest (small_whole z fits) first is in
    let same : to_z w128 (of_z w128 c.wide.result) ≡ z = to_z-of_z w128 c.wide.result (record { sfits = c.wide.type_inv }) ∙ wide.0 in
    let found = c.or_give_up.ensures.read z (c.in_i64-number.ensures.read (subst (λ y. IsTrue (fits_i64 y)) (sym same) fits) ∙ ap (λ (y : ℤ). Some y) same) in
    (to_z-of_z w64 c.or_give_up.result (record { sfits = c.or_give_up.type_inv }) ∙ found.0, found.1 ∙ wide.1)

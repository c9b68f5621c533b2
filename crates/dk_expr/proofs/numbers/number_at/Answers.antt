use Rattle.std.specs.Prelude.{ℕ, ℤ, Some, take, refl}
use Rattle.std.specs.Int.{w128}
use Rattle.std.proofs.Common.{◌∙◌, FitsSigned, arith}
use Rattle.std.proofs.lemmas.Int.{fits_signed_from_abs, to_z-of_z}
use Rattle.std.proofs.lemmas.Option.{none-some, same_Some}
use Rattle.dk_expr.specs.declared.numbers.Number.{Number}
use Rattle.dk_expr.proofs.Numerals.{number_taken}
use Rattle.dk_expr.proofs.numbers.number_at.Goals as goal

pub returns-in_err-value-clause-read : goal.returns-in_err-value-clause-read
returns-in_err-value-clause-read c z more small first is =
    let bytes = c.args.bytes.now in
    let len = c.number_len-len.result in
    let own = number_taken bytes (take len bytes) z more len small is first c.number_len-len.ensures.value refl in
    absurd (none-some z (c.in_err-value.ensures.read z small own.0))

abbrev number : ℤ → ℕ → Number
number value len = record { value = value; len = len }

pub returns-clause-read : goal.returns-clause-read
returns-clause-read c z more small first is =
    let bytes = c.args.bytes.now in
    let len = c.number_len-len.result in
    let value = c.in_ok-value.value in
    let own = number_taken bytes (take len bytes) z more len small is first c.number_len-len.ensures.value refl in
    let fits : FitsSigned w128 value = fits_signed_from_abs w128 value (omega (arith, c.in_ok-value.ensures.within)) in
    let read = to_z-of_z w128 value fits ∙ same_Some value z (c.in_ok-value.ensures.read z small own.0) in
    λ i. Some (number (read i) (own.1 i))

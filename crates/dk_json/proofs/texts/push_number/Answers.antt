use Rattle.std.proofs.Common.{◌∙◌, ◌∷◌, ◌^◌, ◌<◌, List, [], ℕ, ℤ, pos, negsuc, ap, arith, subst, sym}
use Rattle.std.proofs.lemmas.Int.{ints, to_z-of_z}
use Rattle.std.specs.Fmt.{signed_decimal}
use Rattle.std.specs.Int.{w128}
use Rattle.std.specs.Prelude.{FitsSigned, unsigned_abs}
use Rattle.json.specs.Print.{IsNumber}
use Rattle.json.specs.Token as token
use Rattle.dk_json.proofs.Adding.{the_same, wrote}
use Rattle.dk_json.proofs.Decimals.{IsNumber-signed_decimal_wide}
use Rattle.dk_json.proofs.texts.push_number.Goals as goal

size_is_small : (z : ℤ) → FitsSigned w128 z → unsigned_abs z < 10 ^ 64
size_is_small (pos n) fits = omega (arith, ints)
size_is_small (negsuc n) fits = omega (arith, ints)

pub number-requires : goal.number-requires
number-requires c =
    let is = c.format.ensures.text ∙ ap signed_decimal (to_z-of_z w128 c.args.number c.ranges.number) in
    subst (λ (s : List ℕ). IsNumber s) (sym is) (IsNumber-signed_decimal_wide c.args.number (size_is_small c.args.number c.ranges.number))

pub returns : goal.returns
returns c =
    let is = c.format.ensures.text ∙ ap signed_decimal (to_z-of_z w128 c.args.number c.ranges.number) in
    the_same (ap (λ (s : List ℕ). token.number s ∷ []) is) (wrote c.in_ok-number.ensures)

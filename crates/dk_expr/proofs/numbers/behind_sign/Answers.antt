use Rattle.std.specs.Prelude.{◌≡◌, ◌+◌, ◌-◌, ◌++◌, ℕ, ℤ, pos, List, Some, drop, length, take}
use Rattle.std.specs.Fmt.{decimal}
use Rattle.std.specs.Int.{w128}
use Rattle.std.proofs.Common.{◌∙◌, FitsSigned, append_assoc, ap, arith, rules}
use Rattle.std.proofs.lemmas.Int.{fits_signed_from_abs, to_z-of_z}
use Rattle.std.proofs.lemmas.List.{drop_at, take_rest}
use Rattle.std.proofs.lemmas.Option.{none-some, same_Some}
use Rattle.dk_expr.specs.Following.{with_sign}
use Rattle.dk_expr.specs.declared.numbers.Number.{Number}
use Rattle.dk_expr.proofs.numbers.behind_sign.Goals as goal

number_behind : (bytes sign number more : List ℕ) → length sign ≡ 3 → bytes ≡ sign ++ number ++ more → take (length bytes - 3) (drop 3 bytes) ≡ number ++ more
number_behind bytes sign number more three is = take_rest bytes 3 ∙ ap (drop 3) (is ∙ append_assoc sign number more) ∙ drop_at sign (number ++ more) 3 three

pub returns-in_err-number-clause-read : goal.returns-in_err-number-clause-read
returns-in_err-number-clause-read c n sign more small three first is =
    absurd (none-some _ (c.in_err-number.ensures.read (pos n) more small first (number_behind c.args.bytes.now sign (decimal n) more three is)))

abbrev number : ℤ → ℕ → Number
number value len = record { value = value; len = len }

pub returns-clause-read : goal.returns-clause-read
returns-clause-read c n sign more small three first is =
    let value = c.in_ok-number.number.value in
    let found = same_Some _ _ (c.in_ok-number.ensures.read (pos n) more small first (number_behind c.args.bytes.now sign (decimal n) more three is)) in
    let bounded : FitsSigned w128 value = fits_signed_from_abs w128 value (omega (arith, c.in_ok-number.ensures.small)) in
    let fits : FitsSigned w128 c.with_sign.result = search rules in
    let signed = to_z-of_z w128 c.with_sign.result fits ∙ c.with_sign.ensures ∙ ap (with_sign c.args.is_negative) (to_z-of_z w128 value bounded ∙ ap (λ (x : Number). x.value) found) in
    λ i. Some (number (signed i) (3 + (found i).len))

use Rattle.std.proofs.Common.{◌≡◌, ◌++◌, ℕ, List, length, true}
use Rattle.std.specs.Char.{is_ascii_digit}
use Rattle.std.specs.List.{list_all}
use Rattle.dk_claims.proofs.counts.without_digits.Given as goal

abbrev pub invariant-digits : goal.invariant-digits
invariant-digits l = (digits : List ℕ) × (l.fn.text ≡ l.left ++ digits) × (list_all is_ascii_digit digits ≡ true)

abbrev pub decreases-digits : goal.decreases-digits
decreases-digits l = length l.left

use Rattle.std.proofs.Common.{◌≡◌, take}
use Rattle.std.specs.Prelude.{ℤ, IsTrue, List, length, map}
use Rattle.std.specs.Fmt.{signed_decimal}
use Rattle.std.specs.List.{list_all}
use Rattle.dk_base.specs.Numbers.{fits_i64}
use Rattle.dk_expr.proofs.values.ints_of.Given as goal

abbrev pub invariant-loop-place : goal.invariant-loop-place
invariant-loop-place l = record {
  three : length l.ints ≡ 3;
  read : (ks : List ℤ) → IsTrue (list_all fits_i64 ks) → l.texts ≡ map signed_decimal ks → take l.place l.ints ≡ take l.place ks;
  within : IsTrue (list_all fits_i64 (take l.place l.ints));
}

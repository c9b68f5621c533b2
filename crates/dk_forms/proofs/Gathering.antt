-- A loop that puts one value after another among ascending ones.
use Rattle.std.specs.Prelude.{◌≡◌, ℕ, ◌+◌, ◌<◌, ◌≤◌, List, length, drop, refl}
use Rattle.std.specs.declared.cmp.Ordering.{Ordering}
use Rattle.std.specs.FinMap.{IsAntisymmetric}
use Rattle.std.specs.Cmp.{IsTotalOrder}
use Rattle.std.proofs.Common.{ap, arith, get_or}
use Rattle.dk_forms.specs.Known.{broken}
use Rattle.dk_forms.specs.Known.Distinct.{put, put_all, at_most}
use Rattle.dk_forms.proofs.DistinctLaws.{length-all_right, at_most-many}
use Rattle.dk_forms.proofs.Putting.{put_all_on}

module _ {K : Type 0} {R : K → K → Ordering} (o : IsTotalOrder R) (same : IsAntisymmetric R) (d : K) (n : ℕ) (xs s whole : List K) (i : ℕ) (x : K)
    (within : i < length xs) (is : x ≡ get_or xs i d) (so_far : put_all R (drop i xs) s ≡ whole) where
  pub gathered_more : (more : List K) → (more ≡ put R x s) × (length more ≤ n) → (length more ≤ n) × (put_all R (drop (i + 1) xs) more ≡ whole)
  gathered_more more h = (h.1, put_all_on o same d xs s more i x within is h.0 whole so_far)

  pub gathered_too_many : n < length (put R x s) → at_most R n whole ≡ broken
  gathered_too_many h =
      let step : put_all R (drop (i + 1) xs) (put R x s) ≡ whole = put_all_on o same d xs s (put R x s) i x within is refl whole so_far in
      let longer = length-all_right o same (drop (i + 1) xs) (put R x s) in
      let size = ap length step in
      at_most-many o same n whole (omega (arith, h, longer, size))

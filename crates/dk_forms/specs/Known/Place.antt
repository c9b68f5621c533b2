-- Where a number stands among ascending numbers.
use Rattle.std.specs.Prelude.{◌≡◌, ℕ, ◌≤◌, ℤ, List, length, insert}
use Rattle.std.specs.Ordering.{nat_cmp, int_cmp}
use Rattle.std.specs.Cmp.Lexicographic.{slice_cmp}
use Rattle.dk_forms.specs.Known.Distinct.{put}
use Rattle.dk_forms.specs.declared.few.ints.FoundPlace.{FoundPlace}
use Rattle.dk_forms.specs.declared.few.ints.FoundPlace.TheVariants.{There, Before}

-- it is there, or goes before an index
abbrev pub IsPlace : List ℤ → ℤ → FoundPlace → Type 0
IsPlace items x There = put int_cmp x items ≡ items
IsPlace items x (Before i) = (i ≤ length items) × (put int_cmp x items ≡ insert items i x)

abbrev pub IsTextPlace : List (List ℕ) → List ℕ → FoundPlace → Type 0
IsTextPlace items x There = put (slice_cmp nat_cmp) x items ≡ items
IsTextPlace items x (Before i) = (i ≤ length items) × (put (slice_cmp nat_cmp) x items ≡ insert items i x)

-- The definitions at small sequences.
use Rattle.std.proofs.Common.{◌≡◌, ℤ, pos, negsuc, true, false, ◌-◌, ◌^◌, [], ◌∷◌, Some, None, refl}
use Rattle.dk_lanes.specs.declared.relation.Rel.TheVariants.{Lt, Le, Ge}
use Rattle.dk_lanes.specs.declared.offsets.Shift.TheVariants.{Unequal, Empty, Const}
use Rattle.dk_lanes.specs.Lanes.{all_relate, is_sorted, is_pairwise, is_member}
use Rattle.dk_lanes.specs.Bounds.{bounds_of}
use Rattle.dk_lanes.specs.Shift.{shift_of}

-- the ends of 64 bits
least : ℤ
least = negsuc (2 ^ 63 - 1)

greatest : ℤ
greatest = pos (2 ^ 63 - 1)

rises : is_sorted Lt (pos 1 ∷ pos 2 ∷ pos 3 ∷ []) ≡ true
rises = refl

falls_at_the_end : is_sorted Lt (pos 1 ∷ pos 2 ∷ pos 0 ∷ []) ≡ false
falls_at_the_end = refl

one_is_sorted : is_sorted Lt (pos 0 ∷ []) ≡ true
one_is_sorted = refl

all_at_least : all_relate Ge (pos 5 ∷ pos 6 ∷ []) (pos 5) ≡ true
all_at_least = refl

is_in : is_member (pos 5 ∷ pos 6 ∷ []) (pos 6) ≡ true
is_in = refl

longer : is_pairwise Le (pos 1 ∷ pos 2 ∷ []) (pos 1 ∷ []) ≡ false
longer = refl

no_bounds : bounds_of [] ≡ None
no_bounds = refl

both_ends : bounds_of (greatest ∷ least ∷ []) ≡ (let ends : ℤ × ℤ = (least, greatest) in Some ends)
unfolding least greatest
both_ends = refl

three_above : shift_of (pos 1 ∷ pos 2 ∷ []) (pos 4 ∷ pos 5 ∷ []) ≡ Const (pos 3)
three_above = refl

-- equal where numbers of 64 bits wrap round, and not equal
wraps_round : shift_of (pos 0 ∷ least ∷ []) (negsuc 0 ∷ greatest ∷ []) ≡ Unequal
unfolding least greatest
wraps_round = refl

both_empty : shift_of [] [] ≡ Empty
both_empty = refl

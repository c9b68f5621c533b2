-- What the scans of a sequence say of it.
use Rattle.std.specs.Prelude.{ℤ, Bool, ◌&&◌, ◌==◌, List, drop, length, zip}
use Rattle.std.specs.List.{list_all, list_any}
use Rattle.std.specs.Ordering.{int_eq}
use Rattle.dk_lanes.specs.declared.relation.Rel.{Rel}
use Rattle.dk_lanes.specs.Relation.{relates}

-- each element of s is in the relation with its partner in t, the element at the same place; those that have no partner do not count
abbrev pub partners_relate : Rel → List ℤ → List ℤ → Bool
partners_relate rel s t = list_all (λ (p : ℤ × ℤ). relates rel p.0 p.1) (zip s t)

-- each element is in the relation with k
abbrev pub all_relate : Rel → List ℤ → ℤ → Bool
all_relate rel s k = list_all (λ x. relates rel x k) s

-- each element but the last is in the relation with the next
abbrev pub is_sorted : Rel → List ℤ → Bool
is_sorted rel s = partners_relate rel s (drop 1 s)

-- the sequences are of one length, and each element of s is in the relation with its partner in t
abbrev pub is_pairwise : Rel → List ℤ → List ℤ → Bool
is_pairwise rel s t = (length s == length t) && partners_relate rel s t

-- k is an element
abbrev pub is_member : List ℤ → ℤ → Bool
is_member s k = list_any (λ x. int_eq x k) s

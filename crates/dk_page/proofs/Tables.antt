-- The table of groups is full.
use Rattle.std.proofs.Common.{◌≡◌, ◌<◌, ◌≤◌, ℕ, zero, suc, Bool, true, List, [], ◌∷◌, length, drop, get_or, arith, nat_lt, refl}
use Rattle.std.proofs.lemmas.Bool.{and_parts, ltb-true}
use Rattle.std.specs.List.{list_all}
use Rattle.dk_page.specs.Groups.{place_of, row_groups}
use Rattle.dk_page.specs.Laws.{EachRowHasAGroup}
use Rattle.dk_page.specs.declared.groups.Group.{Group}
use Rattle.dk_page.specs.declared.groups.Group.TheVariants as group

abbrev is_kind : Group → Bool
is_kind g = nat_lt (place_of g) (place_of group.Conditional)

-- in a list of kinds there is one at each place
kind_at : (gs : List Group) (n : ℕ) → n < length gs → list_all is_kind gs ≡ true → is_kind (get_or gs n group.Other) ≡ true
kind_at [] n within all = absurd (omega arith)
kind_at (g ∷ gs) zero within all = (and_parts (is_kind g) (list_all is_kind gs) all).0
kind_at (g ∷ gs) (suc n) within all = kind_at gs n (omega arith) (and_parts (is_kind g) (list_all is_kind gs) all).1

-- what stands at 0 is no row, and 68 kinds follow
record IsFull (gs : List Group) : Type 0 where
  long : length gs ≡ 69
  kinds : list_all is_kind (drop 1 gs) ≡ true

kind_in : (gs : List Group) → IsFull gs → (n : ℕ) → 1 ≤ n → n ≤ 68 → is_kind (get_or gs n group.Other) ≡ true
kind_in gs full zero low high = absurd (omega arith)
kind_in [] full (suc n) low high = absurd (omega (arith, full.long))
kind_in (g ∷ gs) full (suc n) low high = kind_at gs n (omega (arith, full.long)) full.kinds

is_full : IsFull row_groups
unfolding row_groups
is_full = record { long = refl; kinds = refl }

pub each_row : EachRowHasAGroup
each_row row is = ltb-true _ _ (kind_in row_groups is_full row.0 is.0 is.1)

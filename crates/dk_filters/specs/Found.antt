-- What is found once for a point, for the facts of all its instances.
use Rattle.std.specs.Prelude.{ℕ, Bool, false, List, [], map, slice_index_or}
use Rattle.std.specs.List.{range_with_len}
use Rattle.dk_base.specs.declared.kinds.VarId.{VarId}
use Rattle.dk_base.specs.declared.kinds.VarInfo.{VarInfo}
use Rattle.dk_instances.specs.Instances.{all_vars}
use Rattle.dk_filters.specs.Answers.{Answers, Parent}
use Rattle.dk_filters.specs.Facts.{first_like, has_one_value, having_partner}
use Rattle.dk_filters.specs.declared.found.PointFacts.{PointFacts}

-- the first so many variables
abbrev pub vars_below : ℕ → List VarId
vars_below count = map (λ n. record { 0 = n }) (range_with_len 0 count)

-- what is listed for a variable
abbrev pub listed_at : List (List VarId) → VarId → List VarId
listed_at listed v = slice_index_or listed v.0 []

abbrev pub first_in : List VarId → VarId → VarId
first_in firsts v = slice_index_or firsts v.0 v

abbrev pub one_value_in : List Bool → VarId → Bool
one_value_in one_values v = slice_index_or one_values v.0 false

-- of each variable the first one like it
abbrev pub firsts_of : Answers → List VarId
firsts_of here = map (first_like here) (all_vars here.infos)

-- of each variable whether it is a scalar that has one value
abbrev pub one_values_of : Answers → List Bool
one_values_of here = map (has_one_value here) (all_vars here.infos)

-- of each variable the parent's variables with this partner
abbrev pub by_partner : List VarInfo → Parent → List (List VarId)
by_partner infos parent = map (having_partner parent) (all_vars infos)

abbrev pub found_of : Answers → List Parent → PointFacts
found_of here parents = record {
  firsts = firsts_of here;
  one_values = one_values_of here;
  partners = map (by_partner here.infos) parents;
}

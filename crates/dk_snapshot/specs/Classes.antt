-- Classes, each as the list of its members.
use Rattle.std.specs.Prelude.{◌≡◌, ◌<◌, ◌==◌, ℕ, not, List, [], filter, length, map, slice_index_or}
use Rattle.std.specs.List.{enumerate_from}
use Rattle.dk_base.specs.Pieces.{is_empty}
use Rattle.dk_base.specs.declared.kinds.VarId.{VarId}
use Rattle.dk_classes.specs.Leaders.{own_leaders, var}

-- the variables that have this one as their leader, ascending
abbrev pub members_of : List VarId → ℕ → List VarId
members_of leaders leader = map (λ p. var p.0) (filter (λ p. p.1.0 == leader) (enumerate_from 0 leaders))

-- the members of each class, the classes ascending by their leaders
abbrev pub classes_of : List VarId → List (List VarId)
classes_of leaders = map (λ v. members_of leaders v.0) (own_leaders leaders)

-- for each variable the members of the class that it leads; none where it doesn't lead
pub record AreGroups (leaders : List VarId) (count : ℕ) (groups : List (List VarId)) : Type 0 where
  pub long : length groups ≡ count
  pub each : (v : ℕ) → v < count → slice_index_or groups v [] ≡ members_of leaders v

abbrev pub nonempty : List (List VarId) → List (List VarId)
nonempty groups = filter (λ group. not (is_empty group)) groups

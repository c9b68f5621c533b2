-- Classes of variables, as the list of the leaders by variable.
use Rattle.std.specs.Prelude.{◌≡◌, ◌<◌, ◌≤◌, ◌==◌, ◌^◌, ℕ, List, length, map, slice_index_or}
use Rattle.std.specs.List.{enumerate_from, filter}
use Rattle.dk_base.specs.declared.kinds.VarId.{VarId}

-- the variable of a number
abbrev pub var : ℕ → VarId
var n = record { 0 = n }

-- the number of a variable's leader
abbrev pub leader_at : List VarId → ℕ → ℕ
leader_at leaders v = let leader = slice_index_or leaders v (var 0) in leader.0

-- the variables that are their own leaders, ascending
abbrev pub own_leaders : List VarId → List VarId
own_leaders leaders = map (λ p. p.1) (filter (λ p. p.1.0 == p.0) (enumerate_from 0 leaders))

-- leaders of classes: none stands after its variable, and each is its own leader
pub record AreClasses (leaders : List VarId) : Type 0 where
  pub few : length leaders < 2 ^ 32
  pub before : (v : ℕ) → v < length leaders → leader_at leaders v ≤ v
  pub own : (v : ℕ) → v < length leaders → leader_at leaders (leader_at leaders v) ≡ leader_at leaders v

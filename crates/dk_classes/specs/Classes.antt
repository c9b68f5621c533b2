-- Which variables are in one class, and what a sample makes of the classes.
use Rattle.std.specs.Prelude.{◌≡◌, ◌≢◌, ◌↔◌, ◌<◌, ◌≤◌, ℕ, Contains, List, [], ◌∷◌, ◌++◌, length, map, slice_index_or, ◌==◌, ◌&&◌, not, if◌then◌else◌}
use Rattle.std.specs.List.{AllPairs}
use Rattle.dk_base.specs.declared.kinds.Kind.{Kind}
use Rattle.dk_base.specs.declared.kinds.Kind.TheVariants as kind
use Rattle.dk_base.specs.declared.kinds.VarId.{VarId}
use Rattle.dk_base.specs.declared.kinds.VarInfo.{VarInfo}
use Rattle.dk_base.specs.declared.values.Value.{Value}
use Rattle.dk_samples.specs.Samples.{Agree, value_in}
use Rattle.dk_classes.specs.Leaders.{leader_at, var}

-- the first of the numbers that have a property
pub record IsFirst (P : ℕ → Type 0) (n : ℕ) : Type 0 where
  pub holds : P n
  pub first : (m : ℕ) → P m → n ≤ m

-- the kinds of the variables
abbrev pub var_kinds : List VarInfo → List Kind
var_kinds vars = map (λ info. info.kind) vars

-- the kind of a variable by its number
abbrev pub kind_at : List Kind → ℕ → Kind
kind_at kinds v = slice_index_or kinds v kind.Bool

-- the variable w is of the kind of v, and has had the same values in all samples
pub record InClass (kinds : List Kind) (samples : List (List Value)) (v w : ℕ) : Type 0 where
  pub within : w < length kinds
  pub kind : kind_at kinds w ≡ kind_at kinds v
  pub agree : Agree samples (var w) (var v)

-- the leader of each variable is the first variable of its class
pub record AreLeaders (kinds : List Kind) (samples : List (List Value)) (leaders : List VarId) : Type 0 where
  pub long : length leaders ≡ length kinds
  pub each : (v : ℕ) → v < length leaders → IsFirst (InClass kinds samples v) (leader_at leaders v)

-- the variable w was in one class with v, and has the same value in the sample
pub record IsLike (leaders : List VarId) (sample : List Value) (v w : ℕ) : Type 0 where
  pub within : w < length leaders
  pub class : leader_at leaders w ≡ leader_at leaders v
  pub value : value_in sample (var w) ≡ value_in sample (var v)

-- the leader of each variable is now the first of its old class that has the same value in the sample
pub record IsSplit (leaders : List VarId) (sample : List Value) (split : List VarId) : Type 0 where
  pub long : length split ≡ length leaders
  pub each : (v : ℕ) → v < length leaders → IsFirst (IsLike leaders sample v) (leader_at split v)

-- the variables that lead now and didn't before, ascending, each with its old leader
pub record AreNew (leaders split : List VarId) (new : List (VarId × VarId)) : Type 0 where
  pub ascend : AllPairs (λ m n. m.0.0 < n.0.0) new
  pub each : (v w : VarId)
      → Contains new (v, w)
      ↔ ((v.0 < length split) × (leader_at split v.0 ≡ v.0) × (leader_at leaders v.0 ≢ v.0) × (w.0 ≡ leader_at leaders v.0))

-- a variable whose old leader is another one, and that is the first of those like it
pub record IsNewLeader (leaders : List VarId) (sample : List Value) (v : ℕ) : Type 0 where
  pub led : leader_at leaders v ≢ v
  pub first : IsFirst (IsLike leaders sample v) v

-- the new leaders below n, ascending, each with its old one; and each variable below n has a first one that is like it
pub record NewBelow (leaders : List VarId) (sample : List Value) (n : ℕ) (new : List (VarId × VarId)) : Type 0 where
  pub ascend : AllPairs (λ m k. m.0.0 < k.0.0) new
  pub each : (v w : VarId) → Contains new (v, w) ↔ ((v.0 < n) × IsNewLeader leaders sample v.0 × (w.0 ≡ leader_at leaders v.0))
  pub firsts : (v : ℕ) → v < n → (r : ℕ) × IsFirst (IsLike leaders sample v) r

-- the new leaders with a variable more, if it is the first of those like it and had another leader
abbrev pub new_with : List (VarId × VarId) → ℕ → VarId → VarId → List (VarId × VarId)
new_with new v first old = if first.0 == v && not (old.0 == v) then new ++ (first, old) ∷ [] else new

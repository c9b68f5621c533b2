-- Variables with a value each.
use Rattle.std.specs.Prelude.{◌≡◌, ◌<◌, ◌==◌, ◌≤◌, ℕ, List, [], ◌∷◌, Option, Some, None, if◌then◌else◌, length, slice_index_or, filter_map, ◌⊎◌}
use Rattle.std.specs.Option.{option_map}
use Rattle.dk_base.specs.declared.kinds.VarId.{VarId}
use Rattle.dk_base.specs.declared.values.Value.{Value}
use Rattle.dk_base.specs.declared.values.Value.TheVariants as value

-- each variable beside its value
abbrev pub Entries : Type 0
Entries = List (VarId × Value)

-- the value that is known of a variable
abbrev pub known_at : List (VarId × Value) → VarId → Option Value
known_at [] v = None
known_at (k ∷ known) v = if k.0.0 == v.0 then Some k.1 else known_at known v

-- what a place outside of the list is read as
abbrev pub none_known : VarId × Value
none_known = (record { 0 = 0 }, value.Missing)

-- the number of the variable at a place of the list
abbrev pub entry_var_at : List (VarId × Value) → ℕ → ℕ
entry_var_at known i = let entry = slice_index_or known i none_known in entry.0.0

-- the variables ascend, so none comes twice
abbrev pub EntriesAscend : List (VarId × Value) → Type 0
EntriesAscend known = (i j : ℕ) → i < j → j < length known → entry_var_at known i < entry_var_at known j

-- the variable stands at the place
pub record IsAt (known : List (VarId × Value)) (v : VarId) (i : ℕ) : Type 0 where
  pub within : i < length known
  pub var : entry_var_at known i ≡ v.0

-- the variable would go to the place: lesser ones stand before it, and greater ones from it on
pub record IsGapFor (known : List (VarId × Value)) (v : VarId) (i : ℕ) : Type 0 where
  pub within : i ≤ length known
  pub lesser : (j : ℕ) → j < i → entry_var_at known j < v.0
  pub greater : (j : ℕ) → i ≤ j → j < length known → v.0 < entry_var_at known j

-- a new leader beside the value of its old one, if that is known
abbrev pub born_one : List (VarId × Value) → VarId × VarId → Option (VarId × Value)
born_one known n = option_map (λ x. (n.0, x)) (known_at known n.1)

-- the new leaders of which the old one is known, each beside that one's value
abbrev pub born_of : List (VarId × Value) → List (VarId × VarId) → List (VarId × Value)
born_of known new = filter_map (born_one known) new

-- Each entry passes the first test and goes to the first list, or passes the second and goes to the second. They keep their order.
abbrev pub IsParted : (P Q : VarId × Value → Type 0) → List (VarId × Value) → List (VarId × Value) → List (VarId × Value) → Type 0
IsParted P Q [] first second = (first ≡ []) × (second ≡ [])
IsParted P Q (k ∷ known) first second =
    (P k × ((rest : List (VarId × Value)) × (first ≡ k ∷ rest) × IsParted P Q known rest second))
    ⊎ (Q k × ((rest : List (VarId × Value)) × (second ≡ k ∷ rest) × IsParted P Q known first rest))

-- What the definitions come to.
use Rattle.std.specs.Prelude.{◌≡◌, ℕ, ℤ, pos, negsuc, ◌+◌, ◌*◌, ◌&&◌, Bool, not, Some, IsSomeAnd, slice_get, int_le, int_lt, nat_lt, is_some, All, List, filter, length, map}
use Rattle.std.specs.Bool.{beq}
use Rattle.std.specs.List.{AllZip}
use Rattle.dk_base.specs.Shapes.{AreWithDerived, is_base_form, is_orig}
use Rattle.dk_base.specs.Values.{IsOfKind, kind_of}
use Rattle.dk_base.specs.declared.kinds.Form.{Form}
use Rattle.dk_base.specs.declared.kinds.Form.TheVariants as form
use Rattle.dk_base.specs.declared.kinds.Kind.{Kind}
use Rattle.dk_base.specs.declared.kinds.VarId.{VarId}
use Rattle.dk_base.specs.declared.kinds.VarInfo.{VarInfo}
use Rattle.dk_base.specs.declared.values.Value.{Value}
use Rattle.dk_base.specs.declared.values.Value.TheVariants as value
use Rattle.dk_graph.specs.declared.nodes.Edge.{Edge}
use Rattle.dk_points.specs.Counts.{number_of_ints, number_of_sequences}
use Rattle.dk_points.specs.Laws.{IsBaseVar}
use Rattle.dk_points.specs.Table.{Point}
use Rattle.dk_points.specs.Vars.{vars_of}
use Rattle.dk_derive.specs.Partners.{partner_with_derived}
use Rattle.dk_derive.specs.Values.{at, derived_value, size, values_by_form}
use Rattle.dk_derive.specs.Vars.{bases_of, var_at, with_derived_vars}

abbrev pub var_kinds : List VarInfo → List Kind
var_kinds vars = map (λ v. v.kind) vars

-- the base variables among base and derived ones
abbrev pub base_of : List VarInfo → List VarInfo
base_of vars = filter (λ v. is_base_form v.form) vars

-- Where each value of the base variables is missing or of its variable's kind, so is each value of all variables.
abbrev pub ValuesAreOfKinds : Type 0
ValuesAreOfKinds =
    (vars : List VarInfo) (base : List Value) → AreWithDerived vars
    → AllZip IsOfKind (var_kinds (base_of vars)) base → AllZip IsOfKind (var_kinds vars) (values_by_form vars base)

-- what is derived of base variables are base variables and derived ones
abbrev pub GivesDerived : Type 0
GivesDerived = (base : List VarInfo) → All IsBaseVar base → AreWithDerived (with_derived_vars base)

-- a derived variable whose sequence is orig, or is not
abbrev pub is_derived_of : Bool → List VarInfo → VarInfo → Bool
is_derived_of orig base v = not (is_base_form v.form) && beq (is_orig (var_at base (bases_of v.form).0).form) orig

-- q plain sequences and n plain whole numbers give 3 q + 5 q n derived variables, and orig ones likewise.
abbrev pub DerivedAreCounted : Type 0
DerivedAreCounted = (orig : Bool) (base : List VarInfo) → All IsBaseVar base
    → length (filter (is_derived_of orig base) (with_derived_vars base))
    ≡ 3 * number_of_sequences orig base + 5 * (number_of_sequences orig base * number_of_ints orig base)

-- whether the derived value is there, and not missing
abbrev pub is_there : List Value → Form → Bool
is_there base f = is_some (kind_of (derived_value base f))

-- of a sequence s of n elements and an index i with the value z: which values are there
pub record AreThereWithin (base : List Value) (s i : VarId) (n : ℕ) (z : ℤ) : Type 0 where
  pub first : is_there base (form.First s) ≡ nat_lt 0 n
  pub last : is_there base (form.Last s) ≡ nat_lt 0 n
  pub at : is_there base (form.At s i) ≡ (int_le (pos 0) z && int_lt z (pos n))
  pub upto : is_there base (form.Upto s i) ≡ (int_le (negsuc 0) z && int_lt z (pos n))
  pub before : is_there base (form.Before s i) ≡ (int_le (pos 0) z && int_le z (pos n))
  pub since : is_there base (form.Since s i) ≡ (int_le (pos 0) z && int_le z (pos n))
  pub after : is_there base (form.After s i) ≡ (int_le (negsuc 0) z && int_lt z (pos n))

abbrev pub ValuesAreWithin : Type 0
ValuesAreWithin =
    (base : List Value) (s i : VarId) (n : ℕ) (z : ℤ) → size (at base s) ≡ value.Int (pos n)
    → at base i ≡ value.Int z → AreThereWithin base s i n z

-- what is derived by an index is missing
pub record AreMissingBy (base : List Value) (s i : VarId) : Type 0 where
  pub at : derived_value base (form.At s i) ≡ value.Missing
  pub upto : derived_value base (form.Upto s i) ≡ value.Missing
  pub before : derived_value base (form.Before s i) ≡ value.Missing
  pub since : derived_value base (form.Since s i) ≡ value.Missing
  pub after : derived_value base (form.After s i) ≡ value.Missing

-- of a missing sequence all is missing
pub record AreMissingOf (base : List Value) (s i : VarId) : Type 0 where
  pub size : derived_value base (form.Size s) ≡ value.Missing
  pub first : derived_value base (form.First s) ≡ value.Missing
  pub last : derived_value base (form.Last s) ≡ value.Missing
  pub by_index : AreMissingBy base s i

-- A missing base makes each value missing.
pub record MissingBasesGiveMissing : Type 0 where
  pub sequence : (base : List Value) (s i : VarId) → at base s ≡ value.Missing → AreMissingOf base s i
  pub index : (base : List Value) (s i : VarId) → at base i ≡ value.Missing → AreMissingBy base s i

-- one kind, and both base variables or both derived ones
abbrev pub IsAlike : VarInfo → VarInfo → Type 0
IsAlike p c = (p.kind ≡ c.kind) × (is_base_form p.form ≡ is_base_form c.form)

-- the variables of the point at this place, derived ones included
abbrev pub all_vars_of : List Point → ℕ → List VarInfo
all_vars_of ps i = with_derived_vars (vars_of ps i)

-- A variable and its partner are alike.
abbrev pub PartnersAreAlike : Type 0
PartnersAreAlike =
    (ps : List Point) (e : Edge) (w v : ℕ) → partner_with_derived ps e (all_vars_of ps e.parent.0) (all_vars_of ps e.child.0) w ≡ Some v
    → IsSomeAnd (slice_get (all_vars_of ps e.parent.0) w) (λ p. IsSomeAnd (slice_get (all_vars_of ps e.child.0) v) (IsAlike p))

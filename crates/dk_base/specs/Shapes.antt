-- Kinds and forms of the variables of a point.
use Rattle.std.specs.Prelude.{◌≡◌, ◌&&◌, ◌++◌, ℕ, Bool, true, false, List, [], ◌∷◌, filter, flat_map, map, if◌then◌else◌}
use Rattle.std.specs.Bool.{beq}
use Rattle.std.specs.List.{enumerate_from}
use Rattle.dk_base.specs.declared.kinds.Form.{Form}
use Rattle.dk_base.specs.declared.kinds.Form.TheVariants as form
use Rattle.dk_base.specs.declared.kinds.Kind.{Kind}
use Rattle.dk_base.specs.declared.kinds.Kind.TheVariants as kind
use Rattle.dk_base.specs.declared.kinds.VarId.{VarId}
use Rattle.dk_base.specs.declared.kinds.VarInfo.{VarInfo}

pub record Shape : Type 0 where
  pub kind : Kind
  pub form : Form

abbrev pub shape_of : VarInfo → Shape
shape_of info = record { kind = info.kind; form = info.form }

abbrev pub is_sequence : Kind → Bool
is_sequence kind.BoolSeq = true
is_sequence kind.IntSeq = true
is_sequence kind.HashSeq = true
is_sequence kind.StrSeq = true
is_sequence kind.Bool = false
is_sequence kind.Int = false
is_sequence kind.Hash = false
is_sequence kind.Str = false

-- the kind of a sequence's elements
abbrev pub element_kind : Kind → Kind
element_kind kind.BoolSeq = kind.Bool
element_kind kind.IntSeq = kind.Int
element_kind kind.HashSeq = kind.Hash
element_kind kind.StrSeq = kind.Str
element_kind k = k

abbrev pub is_int : Kind → Bool
is_int kind.Int = true
is_int k = false

abbrev pub is_orig : Form → Bool
is_orig form.Orig = true
is_orig f = false

-- declared, or what a declared one had at the entry
abbrev pub is_base_form : Form → Bool
is_base_form form.Declared = true
is_base_form form.Orig = true
is_base_form f = false

abbrev pub var : ℕ → VarId
var n = record { 0 = n }

abbrev pub shape : Kind → Form → Shape
shape k f = record { kind = k; form = f }

-- what the sequence s gives by the variable i: an element and four slices, if i is an Int that is orig exactly where s is
abbrev pub by_index : ℕ × Shape → ℕ × Shape → List Shape
by_index s i =
    if is_int i.1.kind && beq (is_orig i.1.form) (is_orig s.1.form) then
    shape (element_kind s.1.kind) (form.At (var s.0) (var i.0))
    ∷ shape s.1.kind (form.Upto (var s.0) (var i.0))
    ∷ shape s.1.kind (form.Before (var s.0) (var i.0))
    ∷ shape s.1.kind (form.Since (var s.0) (var i.0))
    ∷ shape s.1.kind (form.After (var s.0) (var i.0))
    ∷ []
    else []

-- what the variable s gives, if it is a sequence: its size, its first and its last element, and what each index gives
abbrev pub of_sequence : List (ℕ × Shape) → ℕ × Shape → List Shape
of_sequence base s =
    if is_sequence s.1.kind then
    shape kind.Int (form.Size (var s.0))
    ∷ shape (element_kind s.1.kind) (form.First (var s.0))
    ∷ shape (element_kind s.1.kind) (form.Last (var s.0))
    ∷ flat_map (by_index s) base
    else []

-- the base variables, and then what they give, in their order
abbrev pub with_derived : List Shape → List Shape
with_derived base = base ++ flat_map (of_sequence (enumerate_from 0 base)) (enumerate_from 0 base)

-- these variables are base ones followed by what they give
abbrev pub AreWithDerived : List VarInfo → Type 0
AreWithDerived vars = with_derived (filter (λ s. is_base_form s.form) (map shape_of vars)) ≡ map shape_of vars

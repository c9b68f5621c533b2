-- What the values of a sample are.
use Rattle.std.specs.Prelude.{◌≡◌, ℕ, true, All, List, filter_map, Option, Some, None, Ok}
use Rattle.std.specs.List.{AllZip}
use Rattle.dk_base.specs.Reading.{Line}
use Rattle.dk_base.specs.Values.{IsOfKind}
use Rattle.dk_base.specs.Values.Spelling.{IsWritten}
use Rattle.dk_base.specs.declared.kinds.Kind.{Kind}
use Rattle.dk_base.specs.declared.values.Value.{Value}
use Rattle.dk_decl.specs.declared.decls.VarDecl.{VarDecl}
use Rattle.dk_points.specs.Table.{Point}
use Rattle.dk_trace.specs.Records.{Sample, sample_of, var_decls_at}

-- a value of the kind that some text writes; an opaque variable has none
abbrev pub FitsKind : Option Kind → Option Value → Type 0
FitsKind None None = Unit {0}
FitsKind None (Some value) = ⊥
FitsKind (Some k) None = ⊥
FitsKind (Some k) (Some value) = IsOfKind k value × IsWritten value

-- the constant of a variable, if it has one, fits its kind, as that of each block does
abbrev pub HasFittingConstant : VarDecl → Type 0
HasFittingConstant v = v.constant_line ≡ true → FitsKind v.kind v.constant

-- the kinds of the variables that are not opaque
abbrev pub declared_kinds : List VarDecl → List Kind
declared_kinds vs = filter_map (λ v. v.kind) vs

-- as many values as kinds, each of its kind, and each one that some text writes
abbrev pub FitKinds : List Kind → List Value → Type 0
FitKinds kinds values = AllZip IsOfKind kinds values × All IsWritten values

-- the values of a sample fit the declared variables of its point
abbrev pub ValuesFit : Type 0
ValuesFit = (ps : List Point) (first : Line) (ls : List Line) (close : ℕ) (s : Sample) → All HasFittingConstant (var_decls_at ps s.point)
    → sample_of ps first ls (Some close) ≡ Ok s → FitKinds (declared_kinds (var_decls_at ps s.point)) s.values

-- What can be read as it is saved: numbers within their types, names without an LF, values that texts write.
use Rattle.std.specs.Prelude.{◌≡◌, ◌<◌, ◌≤◌, ◌^◌, ℕ, Bool, true, false, All, IsTrue, List, codes, length, nat_eq, unsigned_abs, Option, Some, None}
use Rattle.std.specs.List.{starts_with}
use Rattle.dk_base.specs.Numbers.{fits_i64}
use Rattle.dk_base.specs.Values.{IsOfKind}
use Rattle.dk_base.specs.Values.Items.{is_text}
use Rattle.dk_base.specs.Values.Spelling.{IsWritten}
use Rattle.dk_base.specs.declared.kinds.Kind.{Kind}
use Rattle.dk_base.specs.declared.kinds.VarId.{VarId}
use Rattle.dk_base.specs.declared.kinds.VarInfo.{VarInfo}
use Rattle.dk_base.specs.declared.values.Value.{Value}
use Rattle.dk_classes.specs.Classes.{kind_at, var_kinds}
use Rattle.dk_decl.specs.declared.decls.EdgeDecl.{EdgeDecl}
use Rattle.dk_decl.specs.declared.decls.ParentVar.{ParentVar}
use Rattle.dk_decl.specs.declared.decls.PointDecl.{PointDecl}
use Rattle.dk_decl.specs.declared.decls.VarDecl.{VarDecl}
use Rattle.dk_engine.specs.declared.saved.parts.Parts.{Parts}
use Rattle.dk_engine.specs.declared.slots.slot.Slot.{Slot}
use Rattle.dk_forms.specs.declared.states.State.{State}
use Rattle.dk_forms.specs.declared.states.State.TheVariants as state
use Rattle.dk_snapshot.specs.declared.known.Known.{Known}
use Rattle.dk_snapshot.specs.declared.pattern.Pattern.{Pattern}
use Rattle.dk_state.specs.Reading.{HasNone, ends_line}

-- ---- declarations
pub record FitsEdge (e : EdgeDecl) : Type 0 where
  pub id : e.id < 2 ^ 32
  pub parent : HasNone ends_line e.parent

pub record FitsMapped (p : ParentVar) : Type 0 where
  pub edge : p.edge < 2 ^ 64
  pub name : HasNone ends_line p.name

-- a constant of the kind, which is not read of an opaque variable
abbrev pub FitsConstant : Bool → Option Kind → Option Value → Type 0
FitsConstant false kind None = Unit {0}
FitsConstant true None None = Unit {0}
FitsConstant true (Some kind) (Some value) = IsOfKind kind value × IsWritten value
FitsConstant _ _ _ = ⊥

pub record FitsVar (v : VarDecl) : Type 0 where
  pub name : HasNone ends_line v.name
  pub elem : IsTrue (fits_i64 v.compar.elem)
  pub index : IsTrue (fits_i64 v.compar.index)
  pub constant : FitsConstant v.constant_line v.kind v.constant
  pub parents : All FitsMapped v.parents

pub record FitsPoint (d : PointDecl) : Type 0 where
  pub name : HasNone ends_line d.name
  pub edges : All FitsEdge d.edges
  pub vars : All FitsVar d.vars

-- neither a constant nor a counterpart of the variable in front
abbrev pub IsBehindVars : List ℕ → Type 0
IsBehindVars rest = (starts_with nat_eq rest (codes "constant ") ≡ false) × (starts_with nat_eq rest (codes "mapped ") ≡ false)

-- ---- what is kept of samples
abbrev pub FitsPlace : VarId → Type 0
FitsPlace v = v.0 < 2 ^ 32

-- a state whose numbers are within their types and whose texts are strings; numbers and texts are one to three
abbrev pub FitsState : State → Type 0
FitsState state.Empty = Unit {0}
FitsState state.Broken = ⊥
FitsState state.Holds = Unit {0}
FitsState (state.Least k) = IsTrue (fits_i64 k)
FitsState (state.Greatest k) = IsTrue (fits_i64 k)
FitsState (state.Ints ks) = (0 < length ks) × (length ks ≤ 3) × All (λ k. IsTrue (fits_i64 k)) ks
FitsState (state.Truth b) = Unit {0}
FitsState (state.Code h) = h < 2 ^ 64
FitsState (state.Texts ts) = (0 < length ts) × All (λ t. IsTrue (is_text t)) ts
FitsState (state.One k) = IsTrue (fits_i64 k)
FitsState (state.Modulus m r) = (m < 2 ^ 64) × (r < 2 ^ 64)
FitsState (state.Spot x y) = IsTrue (fits_i64 x) × IsTrue (fits_i64 y)
FitsState (state.Straight a b c) = (unsigned_abs a < 2 ^ 127) × (unsigned_abs b < 2 ^ 127) × (unsigned_abs c < 2 ^ 127)
FitsState (state.Span x1 y1 z1 x2 y2 z2) =
    IsTrue (fits_i64 x1) × IsTrue (fits_i64 y1) × IsTrue (fits_i64 z1) × IsTrue (fits_i64 x2) × IsTrue (fits_i64 y2) × IsTrue (fits_i64 z2)
FitsState (state.Plane a b c d) =
    (unsigned_abs a < 2 ^ 127) × (unsigned_abs b < 2 ^ 127) × (unsigned_abs c < 2 ^ 127) × (unsigned_abs d < 2 ^ 127)
FitsState (state.Offset k) = unsigned_abs k < 2 ^ 127

abbrev pub FitsClass : List VarId → Type 0
FitsClass members = All FitsPlace members

abbrev pub FitsPattern : Pattern → Type 0
FitsPattern p = p.count < 2 ^ 64

-- a value of the variable's kind
pub record FitsKnown (vars : List VarInfo) (k : Known) : Type 0 where
  pub leader : k.leader.0 < length vars
  pub place : k.leader.0 < 2 ^ 32
  pub kind : IsOfKind (kind_at (var_kinds vars) k.leader.0) k.value
  pub written : IsWritten k.value

pub record FitsSlot (s : Slot) : Type 0 where
  pub row : s.row.0 < 2 ^ 8
  pub few : length s.leaders ≤ 3
  pub leaders : All FitsPlace s.leaders
  pub state : FitsState s.state

pub record FitsParts (vars : List VarInfo) (parts : Parts) : Type 0 where
  pub samples : parts.samples < 2 ^ 64
  pub classes : All FitsClass parts.classes
  pub patterns : All FitsPattern parts.patterns
  pub known : All (FitsKnown vars) parts.known
  pub slots : All FitsSlot parts.slots

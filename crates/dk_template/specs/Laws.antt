-- What the definitions of rows and states come to.
use Rattle.std.specs.Prelude.{◌≡◌, ◌≤◌, true, All, Contains, List, length, map, ℤ, flat_map}
use Rattle.std.specs.Borrow.{Bor}
use Rattle.dk_base.specs.Values.{values_of}
use Rattle.dk_base.specs.declared.kinds.VarId.{VarId}
use Rattle.dk_base.specs.declared.kinds.VarInfo.{VarInfo}
use Rattle.dk_base.specs.declared.values.Value.{Value}
use Rattle.dk_base.specs.declared.values.View.{View}
use Rattle.dk_forms.specs.Laws.{JoinLaws}
use Rattle.dk_forms.specs.Offset.{differences, offset_of}
use Rattle.dk_forms.specs.Plane.{plane_of}
use Rattle.dk_forms.specs.Plane.Line.{line_of}
use Rattle.dk_forms.specs.declared.states.State.{State}
use Rattle.dk_forms.specs.declared.states.State.TheVariants.{Empty, Broken, Holds}
use Rattle.dk_template.specs.Admitted.{admits, is_written}
use Rattle.dk_template.specs.Exchange.{exchanged_state, swap, swapped, written_order}
use Rattle.dk_template.specs.Fitting.{fits}
use Rattle.dk_template.specs.Joins.{joined}
use Rattle.dk_template.specs.Proper.{IsProper}
use Rattle.dk_template.specs.Templates.{IsRow, is_plain, template_of}
use Rattle.dk_template.specs.declared.exchange.Exchange.{Exchange}
use Rattle.dk_template.specs.declared.exchange.Exchange.TheVariants.{First}
use Rattle.dk_template.specs.declared.grammar.RowId.{RowId}
use Rattle.dk_template.specs.declared.templates.StateForm.{StateForm}
use Rattle.dk_template.specs.declared.templates.Symmetry.{Symmetry}
use Rattle.dk_template.specs.declared.templates.Symmetry.TheVariants as symmetry
use Rattle.dk_template.specs.declared.templates.Takes.{Takes}
use Rattle.dk_template.specs.declared.templates.Takes.TheVariants.{One, Two, Three}

-- the tuples that slices of views show
abbrev pub tuples_of : List (Bor (List View)) → List (List Value)
tuples_of tuples = map (λ (t : Bor (List View)). values_of t.now) tuples

-- the proper states of each form keep the laws of a join
abbrev pub ProperStatesJoin : Type 0
ProperStatesJoin = (form : StateForm) → JoinLaws (IsProper form) Empty Broken (joined form)

-- a proper state of a row with a relation fits only where it is Holds
abbrev pub PlainStatesFitWhereTheyHold : Type 0
PlainStatesFitWhereTheyHold = (form : StateForm) (s : State) → is_plain form ≡ true → IsProper form s → fits s ≡ true → s ≡ Holds

-- the state of points on a line, with their coordinates exchanged
abbrev pub LinesExchange : Type 0
LinesExchange = (points : List (ℤ × ℤ)) → line_of (map swap points) ≡ exchanged_state First (line_of points)

-- the state of points in space, with two neighbouring coordinates exchanged
abbrev pub PlanesExchange : Type 0
PlanesExchange = (e : Exchange) (points : List (ℤ × ℤ × ℤ)) → plane_of (map (swapped e) points) ≡ exchanged_state e (plane_of points)

-- the state of pairs of sequences, with the two exchanged
abbrev pub OffsetsExchange : Type 0
OffsetsExchange = (pairs : List (List ℤ × List ℤ))
    → offset_of (flat_map (λ (p : List ℤ × List ℤ). differences p.1 p.0) pairs)
    ≡ exchanged_state First (offset_of (flat_map (λ (p : List ℤ × List ℤ). differences p.0 p.1) pairs))

-- the roles that may be exchanged take the same
abbrev pub TakeTheSame : Symmetry → Takes → Type 0
TakeTheSame symmetry.Fixed takes = Unit {0}
TakeTheSame symmetry.All (One a) = Unit {0}
TakeTheSame symmetry.All (Two a b) = a ≡ b
TakeTheSame symmetry.All (Three a b c) = (a ≡ b) × (b ≡ c)
TakeTheSame symmetry.Arguments (Three a b c) = b ≡ c
TakeTheSame symmetry.Arguments takes = ⊥

abbrev pub ExchangeableRolesTakeTheSame : Type 0
ExchangeableRolesTakeTheSame = (row : RowId) → IsRow row → TakeTheSame (template_of row).symmetry (template_of row).takes

-- a tuple that a row admits is admitted in its written order
abbrev pub WrittenTuplesAreAdmitted : Type 0
WrittenTuplesAreAdmitted =
    (row : RowId) → IsRow row → (vars : List VarInfo) (tuple : List VarId)
    → admits row vars tuple ≡ true → admits row vars (written_order row tuple) ≡ true

-- the written order of at most three variables is written
abbrev pub WrittenOrdersAreWritten : Type 0
WrittenOrdersAreWritten = (row : RowId) (tuple : List VarId) → length tuple ≤ 3 → is_written row (written_order row tuple) ≡ true

-- the written order has no other variables, so what holds of all variables holds of all in their written order
abbrev pub WrittenOrdersKeepVariables : Type 0
WrittenOrdersKeepVariables = (row : RowId) (tuple : List VarId) → All (Contains tuple) (written_order row tuple)

-- Broken joins with any state to Broken, also with one that isn't proper
abbrev pub BrokenAbsorbs : Type 0
BrokenAbsorbs = (form : StateForm) (s : State) → joined form Broken s ≡ Broken

-- The slots of an engine are within their types.
use Rattle.std.specs.Prelude.{◌≡◌, ◌≢◌, ◌≤◌, ◌<◌, ◌^◌, ℤ, pos, negsuc, All, IsTrue, List, length, refl, unsigned_abs}
use Rattle.std.proofs.Common.{arith, get_or}
use Rattle.dk_base.specs.Numbers.{fits_i64}
use Rattle.dk_base.specs.declared.kinds.VarInfo.{VarInfo}
use Rattle.dk_classes.proofs.OwnLeaders.{leads_from_own}
use Rattle.dk_engine.specs.Exact.{AreOfPoint}
use Rattle.dk_engine.specs.Feeding.Step.{IsPlaced}
use Rattle.dk_engine.specs.Saved.Conditions.{CanBeFed}
use Rattle.dk_engine.specs.declared.kept.Kept.{Kept}
use Rattle.dk_engine.specs.declared.slots.slot.Slot.{Slot}
use Rattle.dk_forms.specs.Code.{IsCodeState}
use Rattle.dk_forms.specs.Greatest.{IsGreatestState}
use Rattle.dk_forms.specs.Ints.{IsIntsState}
use Rattle.dk_forms.specs.Least.{IsLeastState}
use Rattle.dk_forms.specs.Modulus.{IsModulusState}
use Rattle.dk_forms.specs.Offset.{IsOffsetState}
use Rattle.dk_forms.specs.Plain.{IsPlainState}
use Rattle.dk_forms.specs.Plane.{IsPlaneState}
use Rattle.dk_forms.specs.Plane.Line.{IsLineState}
use Rattle.dk_forms.specs.Texts.{IsTextsState}
use Rattle.dk_forms.specs.Truth.{IsTruthState}
use Rattle.dk_forms.specs.declared.states.State.{State}
use Rattle.dk_forms.specs.declared.states.State.TheVariants as state
use Rattle.dk_state.specs.Fitting.{FitsSlot, FitsState}
use Rattle.dk_template.proofs.WrittenTuples.{admitted_few}
use Rattle.dk_template.specs.Proper.{AreStrings, IsDifference, IsProper}
use Rattle.dk_template.specs.Templates.{IsRowOf, form_of}
use Rattle.dk_template.specs.declared.grammar.Grammar.{Grammar}
use Rattle.dk_template.specs.declared.grammar.Grammar.TheVariants as grammar
use Rattle.dk_template.specs.declared.grammar.RowId.{RowId}
use Rattle.dk_template.specs.declared.templates.StateForm.{StateForm}
use Rattle.dk_template.specs.declared.templates.StateForm.TheVariants.{Plain, Least, Greatest, Ints, Truth, Code, Texts, Modulus, Line, Plane, Offset}
use Rattle.dk_merging.specs.Numbers.{AreNumbersWithin}

-- ---- the state of a slot, by its form
small : (z : ℤ) → unsigned_abs z ≤ 2 ^ 62 → IsTrue (fits_i64 z)
small (pos n) near = grind (arith, near)
small (negsuc n) near = grind (arith, near)

plain_fits : (s : State) → IsPlainState s → s ≢ state.Broken → FitsState s
plain_fits state.Empty p n = tt
plain_fits state.Broken p n = absurd (n refl)
plain_fits state.Holds p n = tt
plain_fits _ p n = absurd p

least_fits : (s : State) → IsLeastState s → s ≢ state.Broken → AreNumbersWithin s → FitsState s
least_fits state.Empty p n w = tt
least_fits state.Broken p n w = absurd (n refl)
least_fits (state.Least k) p n w = w
least_fits _ p n w = absurd p

greatest_fits : (s : State) → IsGreatestState s → s ≢ state.Broken → AreNumbersWithin s → FitsState s
greatest_fits state.Empty p n w = tt
greatest_fits state.Broken p n w = absurd (n refl)
greatest_fits (state.Greatest k) p n w = w
greatest_fits _ p n w = absurd p

ints_fit : (s : State) → IsIntsState s → s ≢ state.Broken → AreNumbersWithin s → FitsState s
ints_fit state.Empty p n w = tt
ints_fit state.Broken p n w = absurd (n refl)
ints_fit (state.Ints ks) p n w = (p.some, p.few, w)
ints_fit _ p n w = absurd p

truth_fits : (s : State) → IsTruthState s → s ≢ state.Broken → FitsState s
truth_fits state.Empty p n = tt
truth_fits state.Broken p n = absurd (n refl)
truth_fits (state.Truth b) p n = tt
truth_fits _ p n = absurd p

code_fits : (s : State) → IsCodeState s → s ≢ state.Broken → AreNumbersWithin s → FitsState s
code_fits state.Empty p n w = tt
code_fits state.Broken p n w = absurd (n refl)
code_fits (state.Code h) p n w = w
code_fits _ p n w = absurd p

texts_fit : (s : State) → IsTextsState s → AreStrings s → s ≢ state.Broken → FitsState s
texts_fit state.Empty p q n = tt
texts_fit state.Broken p q n = absurd (n refl)
texts_fit (state.Texts ts) p q n = (p.some, q)
texts_fit _ p q n = absurd p

modulus_fits : (s : State) → IsModulusState s → s ≢ state.Broken → AreNumbersWithin s → FitsState s
modulus_fits state.Empty p n w = tt
modulus_fits state.Broken p n w = absurd (n refl)
modulus_fits (state.One k) p n w = w
modulus_fits (state.Modulus m r) p n w = w
modulus_fits _ p n w = absurd p

line_fits : (s : State) → IsLineState s → s ≢ state.Broken → FitsState s
line_fits state.Empty p n = tt
line_fits state.Broken p n = absurd (n refl)
line_fits (state.Spot x y) p n = (small x p.x, small y p.y)
line_fits (state.Straight a b c) p n = (omega (arith, p.a), omega (arith, p.b), omega (arith, p.c))
line_fits _ p n = absurd p

plane_fits : (s : State) → IsPlaneState s → s ≢ state.Broken → FitsState s
plane_fits state.Empty p n = tt
plane_fits state.Broken p n = absurd (n refl)
plane_fits (state.Span x1 y1 z1 x2 y2 z2) p n =
    let near : (z : ℤ) → unsigned_abs z ≤ 2 ^ 30 → IsTrue (fits_i64 z) = λ z less. small z (omega (arith, less)) in
    (near x1 p.first.x, near y1 p.first.y, near z1 p.first.z, near x2 p.last.x, near y2 p.last.y, near z2 p.last.z)
plane_fits (state.Plane a b c d) p n = (omega (arith, p.a), omega (arith, p.b), omega (arith, p.c), omega (arith, p.d))
plane_fits _ p n = absurd p

offset_fits : (s : State) → IsOffsetState s → IsDifference s → s ≢ state.Broken → FitsState s
offset_fits state.Empty p q n = tt
offset_fits state.Broken p q n = absurd (n refl)
offset_fits (state.Offset k) p q n = omega (arith, q)
offset_fits _ p q n = absurd p

proper_fits : (f : StateForm) (s : State) → IsProper f s → s ≢ state.Broken → AreNumbersWithin s → FitsState s
proper_fits Plain s p n w = plain_fits s p n
proper_fits Least s p n w = least_fits s p n w
proper_fits Greatest s p n w = greatest_fits s p n w
proper_fits Ints s p n w = ints_fit s p n w
proper_fits Truth s p n w = truth_fits s p n
proper_fits Code s p n w = code_fits s p n w
proper_fits Texts s p n w = texts_fit s p.0 p.1 n
proper_fits Modulus s p n w = modulus_fits s p n w
proper_fits Line s p n w = line_fits s p n
proper_fits Plane s p n w = plane_fits s p n
proper_fits Offset s p n w = offset_fits s p.0 p.1 n

-- ---- slots
row_small : (g : Grammar) (row : RowId) → IsRowOf g row → row.0 < 2 ^ 8
row_small grammar.One row is = omega (arith, is.1)
row_small grammar.Two row is = omega (arith, is.1)

slot_fits : (g : Grammar) (infos : List VarInfo) (kept : Kept) (slot : Slot) → AreOfPoint infos → length kept.leaders ≡ length infos → IsPlaced g infos kept.leaders slot.row slot.leaders
    → FitsState slot.state → FitsSlot slot
slot_fits g infos kept slot point long placed fits = record {
  row = row_small g slot.row placed.over.of_grammar;
  few = admitted_few slot.row infos slot.leaders placed.over.admitted;
  leaders = λ k d l.
      let leads = (leads_from_own kept.leaders (get_or slot.leaders k d) (placed.over.lead k d l)).0 in
      let few = point.few in
      omega (arith, leads, long, few);
  state = fits;
}

pub slots_fit : (g : Grammar) (infos : List VarInfo) (kept : Kept) → AreOfPoint infos → CanBeFed g infos kept → All (λ slot. AreNumbersWithin slot.state) kept.slots → All FitsSlot kept.slots
slots_fit g infos kept point fed within = λ k d l.
    let slot : Slot = get_or kept.slots k d in
    let fits : FitsState slot.state = proper_fits (form_of slot.row) slot.state (fed.readable.states k d l) (fed.unbroken k d l) (within k d l) in
    slot_fits g infos kept slot point fed.readable.leaders.long (fed.placed k d l) fits

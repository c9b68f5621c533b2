-- What is read from the kept parts of samples is what the samples say.
use Rattle.std.specs.Prelude.{◌≡◌, ◌↔◌, ◌<◌, ◌≤◌, ◌^◌, ◌++◌, Contains, IsTrue, List, [], ◌∷◌, length}
use Rattle.std.specs.List.Sorted.{IsPermutation}
use Rattle.dk_base.specs.declared.kinds.VarId.{VarId}
use Rattle.dk_base.specs.declared.kinds.VarInfo.{VarInfo}
use Rattle.dk_base.specs.declared.values.Value.{Value}
use Rattle.dk_classes.specs.Classes.{AreLeaders, kind_at, var_kinds}
use Rattle.dk_classes.specs.Leaders.{own_leaders}
use Rattle.dk_constants.specs.Known.{Entries}
use Rattle.dk_instances.specs.Fits.{fit}
use Rattle.dk_instances.specs.Laws.{IsSample}
use Rattle.dk_presence.specs.Patterns.{count_of}
use Rattle.dk_presence.specs.declared.held.Held.{Held}
use Rattle.dk_samples.specs.Leaders.{VarsAscend}
use Rattle.dk_samples.specs.Samples.{Agree}
use Rattle.dk_suppress.specs.Soundness.{fit_of}
use Rattle.dk_template.specs.Admitted.{admits}
use Rattle.dk_template.specs.Premises.{AreThere}
use Rattle.dk_template.specs.Templates.{IsRowOf}
use Rattle.dk_template.specs.declared.grammar.Grammar.{Grammar}
use Rattle.dk_template.specs.declared.grammar.RowId.{RowId}
use Rattle.dk_engine.specs.Exact.{AreOfPoint, AreSamples, AreSlots, IsKeptOf}
use Rattle.dk_engine.specs.Feeding.{IsFed, read_after, slots_of}
use Rattle.dk_engine.specs.Reading.{agree_read, count_read, state_read}
use Rattle.dk_engine.specs.Reading.Parts.{leaders_of}
use Rattle.dk_engine.specs.Saved.{AreSavedParts, parts_of}
use Rattle.dk_engine.specs.Saved.Conditions.{AreParts}
use Rattle.dk_engine.specs.declared.feed.now.Now.{Now}
use Rattle.dk_engine.specs.declared.kept.Kept.{Kept}
use Rattle.dk_engine.specs.declared.slots.slot.Slot.{Slot}

-- a statement of what is kept of samples
abbrev pub OfKept : (Grammar → List VarInfo → List (List Value) → Kept → Type 0) → Type 0
OfKept P =
    (grammar : Grammar) (infos : List VarInfo) → AreOfPoint infos → (samples : List (List Value)) → AreSamples infos samples
    → (kept : Kept) → IsKeptOf grammar infos samples kept → P grammar infos samples kept

-- the state of each row over variables that it admits, in any order and with any repeats
abbrev pub ReadingIsFit : Type 0
ReadingIsFit = OfKept (λ grammar infos samples kept. (row : RowId)
    → IsRowOf grammar row → (vars : List VarId) → IsTrue (admits row infos vars)
    → state_read kept row vars ≡ fit row vars samples)

-- the counts
abbrev pub CountReadIsCount : Type 0
CountReadIsCount =
    OfKept (λ grammar infos samples kept. (vars : List VarId) → AreThere infos vars → count_read kept vars ≡ count_of vars samples)

-- agreement
abbrev pub AgreeReadIsAgreement : Type 0
AgreeReadIsAgreement = OfKept (λ grammar infos samples kept. (v w : VarId) → v.0 < length infos → w.0 < length infos
    → IsTrue (agree_read kept v w) ↔ ((kind_at (var_kinds infos) v.0 ≡ kind_at (var_kinds infos) w.0) × Agree samples v w))

-- the conditions
abbrev pub KeptPartsMeetTheirConditions : Type 0
KeptPartsMeetTheirConditions = OfKept (λ grammar infos samples kept. AreParts grammar infos kept)

-- what is kept of 1 to 2^40 samples is saved as parts of which an engine can be made
abbrev pub KeptPartsAreSaved : Type 0
KeptPartsAreSaved =
    OfKept (λ grammar infos samples kept. 1 ≤ length samples → length samples ≤ 2 ^ 40 → AreSavedParts grammar infos (parts_of kept))

-- a row that admits variables admits their leaders: these are of the same kinds, and base variables stand first
abbrev pub LeadersAreAdmitted : Type 0
LeadersAreAdmitted =
    (infos : List VarInfo) → AreOfPoint infos → (samples : List (List Value)) (leaders : List VarId)
    → AreLeaders (var_kinds infos) samples leaders
    → (row : RowId) (vars : List VarId) → IsTrue (admits row infos vars) → IsTrue (admits row infos (leaders_of leaders vars))

-- ---- one sample more
-- the states with one sample more
abbrev pub ReadAfterIsFit : Type 0
ReadAfterIsFit = OfKept (λ grammar infos samples kept. (sample : List Value) → (row : RowId)
    → IsRowOf grammar row → (vars : List VarId) → IsTrue (admits row infos vars)
    → read_after kept sample row vars ≡ fit row vars (samples ++ sample ∷ []))

-- the slots that the fits of some samples give are the slots of the samples
abbrev pub SlotsOfFitsAreExact : Type 0
SlotsOfFitsAreExact =
    (grammar : Grammar) (infos : List VarInfo) (samples : List (List Value)) → 0 < length samples
    → (leaders : List VarId) → VarsAscend (own_leaders leaders) → (known : Entries)
    → AreSlots grammar infos samples leaders known (slots_of grammar infos (own_leaders leaders) known (fit_of samples))

-- the parts with one sample more are what an engine keeps of the samples and that one
abbrev pub FedPartsAreExact : Type 0
FedPartsAreExact = OfKept (λ grammar infos samples kept. (sample : List Value)
    → IsSample infos sample → (now : Now) (after : Kept) → IsFed grammar infos kept sample now after
    → IsKeptOf grammar infos (samples ++ sample ∷ []) after)

-- ---- uniqueness
-- the slots of samples are one list
abbrev pub SlotsAreDetermined : Type 0
SlotsAreDetermined =
    (grammar : Grammar) (infos : List VarInfo) (samples : List (List Value))
    (leaders : List VarId) (known : Entries) (slots others : List Slot)
    → AreSlots grammar infos samples leaders known slots → AreSlots grammar infos samples leaders known others → slots ≡ others

-- the same parts, their patterns in any order
pub record AreSameParts (kept other : Kept) : Type 0 where
  pub number : kept.samples ≡ other.samples
  pub leaders : kept.leaders ≡ other.leaders
  pub known : kept.known ≡ other.known
  pub slots : kept.slots ≡ other.slots
  pub held : (h : Held) → Contains kept.held h ↔ Contains other.held h

-- what is kept of samples is so too
abbrev pub KeptPartsAreDetermined : Type 0
KeptPartsAreDetermined =
    (grammar : Grammar) (infos : List VarInfo) (samples : List (List Value)) (kept other : Kept)
    → IsKeptOf grammar infos samples kept → IsKeptOf grammar infos samples other → AreSameParts kept other

-- ---- order
-- what is kept of samples is kept of them in any order
abbrev pub OrderDoesNotMatter : Type 0
OrderDoesNotMatter =
    (grammar : Grammar) (infos : List VarInfo) (samples others : List (List Value)) → IsPermutation samples others
    → (kept : Kept) → IsKeptOf grammar infos samples kept → IsKeptOf grammar infos others kept

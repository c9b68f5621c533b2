-- The conditions that any kept parts meet, also those of a loaded state that no samples give.
use Rattle.std.specs.Prelude.{◌≡◌, ◌≢◌, ◌<◌, ℕ, Some, false, All, Contains, IsTrue, List, [], length}
use Rattle.std.specs.List.{AllPairs}
use Rattle.dk_base.specs.Values.{IsOfKind}
use Rattle.dk_base.specs.Values.Spelling.{IsWritten}
use Rattle.dk_base.specs.declared.kinds.VarId.{VarId}
use Rattle.dk_base.specs.declared.kinds.VarInfo.{VarInfo}
use Rattle.dk_base.specs.declared.values.Value.{Value}
use Rattle.dk_classes.specs.Classes.{kind_at, var_kinds}
use Rattle.dk_classes.specs.Leaders.{AreClasses, leader_at, own_leaders}
use Rattle.dk_constants.specs.Known.{EntriesAscend, known_at}
use Rattle.dk_forms.specs.declared.states.State.TheVariants.{Broken, Empty}
use Rattle.dk_presence.specs.Patterns.{AreHeld, counted_by, has}
use Rattle.dk_samples.specs.Samples.{is_present}
use Rattle.dk_suppress.specs.Rules.{is_suppressed}
use Rattle.dk_template.specs.Admitted.{is_written}
use Rattle.dk_template.specs.Proper.{IsProper}
use Rattle.dk_template.specs.Templates.{form_of}
use Rattle.dk_template.specs.declared.grammar.Grammar.{Grammar}
use Rattle.dk_template.specs.declared.templates.StateForm.TheVariants as form
use Rattle.dk_engine.specs.Exact.{IsOverLeaders, SlotBefore}
use Rattle.dk_engine.specs.Feeding.Step.{IsPlaced}
use Rattle.dk_engine.specs.Reading.{rank_bound, read_leaders}
use Rattle.dk_engine.specs.Reading.Parts.{all_known}
use Rattle.dk_engine.specs.declared.kept.Kept.{Kept}
use Rattle.dk_engine.specs.declared.slots.slot.Slot.{Slot}

-- each variable has a leader, of its kind
pub record AreLeadersOf (infos : List VarInfo) (leaders : List VarId) : Type 0 where
  pub long : length leaders ≡ length infos
  pub classes : AreClasses leaders
  pub kinds : (v : ℕ) → v < length leaders → kind_at (var_kinds infos) (leader_at leaders v) ≡ kind_at (var_kinds infos) v

-- a value of the variable's kind, one that some text writes
pub record IsValueOf (infos : List VarInfo) (v : VarId) (x : Value) : Type 0 where
  pub kind : IsOfKind (kind_at (var_kinds infos) v.0) x
  pub written : IsWritten x

-- What is enough to read parts: leaders of their variables' kinds, values of the constants' kinds, and proper states.
pub record CanBeRead (infos : List VarInfo) (kept : Kept) : Type 0 where
  pub leaders : AreLeadersOf infos kept.leaders
  pub values : (v : VarId) (x : Value) → known_at kept.known v ≡ Some x → IsValueOf infos v x
  pub states : All (λ slot. IsProper (form_of slot.row) slot.state) kept.slots

-- What is enough to feed parts: they can be read, constants and the variables of patterns lead, and slots ascend, are of leaders
-- in written order and aren't Broken.
pub record CanBeFed (grammar : Grammar) (infos : List VarInfo) (kept : Kept) : Type 0 where
  pub readable : CanBeRead infos kept
  pub constants_lead : (v : VarId) (x : Value) → known_at kept.known v ≡ Some x → Contains (own_leaders kept.leaders) v
  pub patterns_lead : All (λ h. All (Contains (own_leaders kept.leaders)) h.leaders) kept.held
  pub placed : All (λ slot. IsPlaced grammar infos kept.leaders slot.row slot.leaders) kept.slots
  pub in_order : AllPairs SlotBefore kept.slots
  pub unbroken : All (λ slot. slot.state ≢ Broken) kept.slots

-- slots that parts with these leaders can have
pub record AreFormed (grammar : Grammar) (infos : List VarInfo) (leaders : List VarId) (slots : List Slot) : Type 0 where
  pub states : All (λ slot. IsProper (form_of slot.row) slot.state) slots
  pub placed : All (λ slot. IsPlaced grammar infos leaders slot.row slot.leaders) slots
  pub in_order : AllPairs SlotBefore slots
  pub unbroken : All (λ slot. slot.state ≢ Broken) slots

-- the patterns are of leaders, and their counts make the number of samples
pub record ArePatternsOf (kept : Kept) : Type 0 where
  pub form : AreHeld kept.held
  pub lead : All (λ h. All (Contains (own_leaders kept.leaders)) h.leaders) kept.held
  pub sum : counted_by kept.held [] ≡ kept.samples

-- a constant is a leader, and it is present in all patterns or in none
pub record IsConstantOf (kept : Kept) (v : VarId) (x : Value) : Type 0 where
  pub leads : Contains (own_leaders kept.leaders) v
  pub present : All (λ h. has h.leaders v ≡ is_present x) kept.held

-- A slot is over leaders in written order that aren't all constant. Its state isn't Broken, and is Empty where the leaders are
-- present together in no sample; a row with a relation is Empty only there. No rule suppresses it in the parts as they stand.
pub record IsSlotOf (grammar : Grammar) (infos : List VarInfo) (kept : Kept) (slot : Slot) : Type 0 where
  pub over : IsOverLeaders grammar infos kept.leaders slot.row slot.leaders
  pub written : IsTrue (is_written slot.row slot.leaders)
  pub varies : all_known kept.known slot.leaders ≡ false
  pub unbroken : slot.state ≢ Broken
  pub absent : counted_by kept.held slot.leaders ≡ 0 → slot.state ≡ Empty
  pub present : form_of slot.row ≡ form.Plain → slot.state ≡ Empty → counted_by kept.held slot.leaders ≡ 0
  pub unsuppressed : is_suppressed (read_leaders rank_bound kept) slot.row slot.leaders ≡ false

-- all parts
pub record AreParts (grammar : Grammar) (infos : List VarInfo) (kept : Kept) : Type 0 where
  pub readable : CanBeRead infos kept
  pub patterns : ArePatternsOf kept
  pub ascend : EntriesAscend kept.known
  pub constants : (v : VarId) (x : Value) → known_at kept.known v ≡ Some x → IsConstantOf kept v x
  pub in_order : AllPairs SlotBefore kept.slots
  pub slots : All (IsSlotOf grammar infos kept) kept.slots
  pub none : kept.samples ≡ 0 → (length kept.known ≡ 0) × (length kept.slots ≡ 0)

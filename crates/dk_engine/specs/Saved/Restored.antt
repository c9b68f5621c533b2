-- Kept parts that are read back from the order in which they are saved, and what is tested of them.
use Rattle.std.specs.Prelude.{◌≡◌, ◌≢◌, ◌<◌, ℕ, false, All, Contains, IsTrue, List, [], length}
use Rattle.std.specs.List.{AllPairs}
use Rattle.std.specs.List.Sorted.{IsPermutation}
use Rattle.dk_base.specs.declared.kinds.VarId.{VarId}
use Rattle.dk_base.specs.declared.kinds.VarInfo.{VarInfo}
use Rattle.dk_base.specs.declared.values.Value.{Value}
use Rattle.dk_classes.specs.Classes.{kind_at, var_kinds}
use Rattle.dk_classes.specs.Leaders.{AreClasses, leader_at, own_leaders}
use Rattle.dk_constants.specs.Known.{EntriesAscend}
use Rattle.dk_forms.specs.declared.states.State.{State}
use Rattle.dk_forms.specs.declared.states.State.TheVariants.{Broken, Empty}
use Rattle.dk_presence.specs.Patterns.{AreHeld, counted_by}
use Rattle.dk_suppress.specs.Rules.{is_suppressed}
use Rattle.dk_template.specs.Admitted.{is_written}
use Rattle.dk_template.specs.Proper.{IsProper}
use Rattle.dk_template.specs.Templates.{form_of}
use Rattle.dk_template.specs.declared.grammar.Grammar.{Grammar}
use Rattle.dk_template.specs.declared.templates.StateForm.{StateForm}
use Rattle.dk_template.specs.declared.templates.StateForm.TheVariants as form
use Rattle.dk_engine.specs.Exact.{IsOverLeaders, SlotBefore}
use Rattle.dk_engine.specs.Reading.{rank_bound, read_leaders}
use Rattle.dk_engine.specs.Reading.Parts.{all_known}
use Rattle.dk_engine.specs.Saved.{parts_of}
use Rattle.dk_engine.specs.Saved.Conditions.{IsConstantOf, IsValueOf}
use Rattle.dk_engine.specs.declared.kept.Kept.{Kept}
use Rattle.dk_engine.specs.declared.saved.parts.Parts.{Parts}
use Rattle.dk_engine.specs.declared.slots.slot.Slot.{Slot}

-- leaders of so many variables, patterns over them, and constants that ascend
pub record AreShaped (count : ℕ) (kept : Kept) : Type 0 where
  pub lawful : AreClasses kept.leaders
  pub long : length kept.leaders ≡ count
  pub form : AreHeld kept.held
  pub lead : All (λ h. All (Contains (own_leaders kept.leaders)) h.leaders) kept.held
  pub ascend : EntriesAscend kept.known

-- such parts, which are saved as these
pub record HaveParts (count : ℕ) (parts : Parts) (kept : Kept) : Type 0 where
  pub shaped : AreShaped count kept
  pub saved : parts_of kept ≡ parts

-- the same parts, the patterns in another order
pub record IsRearranged (kept other : Kept) : Type 0 where
  pub number : kept.samples ≡ other.samples
  pub leaders : kept.leaders ≡ other.leaders
  pub known : kept.known ≡ other.known
  pub held : IsPermutation kept.held other.held
  pub slots : kept.slots ≡ other.slots

-- ---- what is tested
-- each variable is of its leader's kind
abbrev pub HaveKinds : List VarInfo → List VarId → Type 0
HaveKinds infos leaders = (v : ℕ) → v < length leaders → kind_at (var_kinds infos) (leader_at leaders v) ≡ kind_at (var_kinds infos) v

-- the value of a constant
pub record IsConstant (infos : List VarInfo) (kept : Kept) (entry : VarId × Value) : Type 0 where
  pub value : IsValueOf infos entry.0 entry.1
  pub constant : IsConstantOf kept entry.0 entry.1

-- A state that a row over leaders can have that are together in so many samples. It isn't Broken, and is Empty where there are none; a
-- row with a relation is Empty only there.
pub record IsStateOf (of_form : StateForm) (count : ℕ) (state : State) : Type 0 where
  pub proper : IsProper of_form state
  pub unbroken : state ≢ Broken
  pub absent : count ≡ 0 → state ≡ Empty
  pub present : of_form ≡ form.Plain → state ≡ Empty → count ≡ 0

-- a slot, but that a rule may suppress it
pub record IsOpenSlot (grammar : Grammar) (infos : List VarInfo) (kept : Kept) (slot : Slot) : Type 0 where
  pub over : IsOverLeaders grammar infos kept.leaders slot.row slot.leaders
  pub written : IsTrue (is_written slot.row slot.leaders)
  pub varies : all_known kept.known slot.leaders ≡ false
  pub state : IsStateOf (form_of slot.row) (counted_by kept.held slot.leaders) slot.state

-- all conditions, but that a rule may suppress a slot
pub record AreOpen (grammar : Grammar) (infos : List VarInfo) (kept : Kept) : Type 0 where
  pub kinds : HaveKinds infos kept.leaders
  pub sum : counted_by kept.held [] ≡ kept.samples
  pub constants : All (IsConstant infos kept) kept.known
  pub in_order : AllPairs SlotBefore kept.slots
  pub slots : All (IsOpenSlot grammar infos kept) kept.slots

-- no rule suppresses a slot
abbrev pub AreUnsuppressed : Kept → Type 0
AreUnsuppressed kept = All (λ slot. is_suppressed (read_leaders rank_bound kept) slot.row slot.leaders ≡ false) kept.slots

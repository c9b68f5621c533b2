-- What an engine keeps of a list of samples, exactly.
use Rattle.std.specs.Prelude.{◌≡◌, ◌≢◌, ◌↔◌, ◌<◌, ◌^◌, false, All, Contains, IsTrue, List, length}
use Rattle.std.specs.List.{AllPairs, AllZip}
use Rattle.dk_base.specs.Shapes.{is_base_form}
use Rattle.dk_base.specs.Values.{IsOfKind}
use Rattle.dk_base.specs.declared.kinds.VarId.{VarId}
use Rattle.dk_base.specs.declared.kinds.VarInfo.{VarInfo}
use Rattle.dk_base.specs.declared.values.Value.{Value}
use Rattle.dk_classes.specs.Classes.{AreLeaders, var_kinds}
use Rattle.dk_classes.specs.Leaders.{own_leaders}
use Rattle.dk_constants.specs.Constants.{AreConstants}
use Rattle.dk_constants.specs.Known.{Entries}
use Rattle.dk_forms.specs.declared.states.State.TheVariants.{Broken}
use Rattle.dk_instances.specs.Fits.{fit}
use Rattle.dk_instances.specs.Instances.{ComesBefore}
use Rattle.dk_instances.specs.Laws.{IsSample}
use Rattle.dk_presence.specs.Patterns.{AreCounted, AreHeld, capped, patterns_of}
use Rattle.dk_presence.specs.declared.held.Held.{Held}
use Rattle.dk_suppress.specs.Rules.{is_suppressed}
use Rattle.dk_suppress.specs.Soundness.{fit_of}
use Rattle.dk_template.specs.Admitted.{admits, is_written}
use Rattle.dk_template.specs.Templates.{IsRowOf}
use Rattle.dk_template.specs.declared.grammar.Grammar.{Grammar}
use Rattle.dk_template.specs.declared.grammar.RowId.{RowId}
use Rattle.dk_engine.specs.Reading.Parts.{all_known}
use Rattle.dk_engine.specs.declared.kept.Kept.{Kept}
use Rattle.dk_engine.specs.declared.slots.slot.Slot.{Slot}

-- ---- tuples of leaders
-- each of the variables is its own leader
abbrev pub Lead : List VarId → List VarId → Type 0
Lead leaders vars = All (Contains (own_leaders leaders)) vars

-- a row of the grammar and leaders that it admits, in any order and with any repeats
pub record IsOverLeaders (grammar : Grammar) (infos : List VarInfo) (leaders : List VarId) (row : RowId) (vars : List VarId) : Type 0 where
  pub of_grammar : IsRowOf grammar row
  pub admitted : IsTrue (admits row infos vars)
  pub lead : Lead leaders vars

-- ---- slots
-- A slot of the samples, of which there are some. It is a row over leaders in its written order, repeats allowed, that aren't all
-- constant. Its state is the row's fit, which isn't Broken and which no rule suppresses.
pub record IsSlot (grammar : Grammar) (infos : List VarInfo) (samples : List (List Value))
    (leaders : List VarId) (known : Entries) (slot : Slot) : Type 0 where
  pub some : 0 < length samples
  pub over : IsOverLeaders grammar infos leaders slot.row slot.leaders
  pub written : IsTrue (is_written slot.row slot.leaders)
  pub varies : all_known known slot.leaders ≡ false
  pub state : slot.state ≡ fit slot.row slot.leaders samples
  pub unbroken : slot.state ≢ Broken
  pub unsuppressed : is_suppressed (fit_of samples) slot.row slot.leaders ≡ false

-- a slot of an earlier row, or of the same row with variables that precede
abbrev pub SlotBefore : Slot → Slot → Type 0
SlotBefore a b = ComesBefore (a.row, a.leaders) (b.row, b.leaders)

-- exactly the slots of the samples, ascending, so none comes twice
pub record AreSlots (grammar : Grammar) (infos : List VarInfo) (samples : List (List Value))
    (leaders : List VarId) (known : Entries) (slots : List Slot) : Type 0 where
  pub ascend : AllPairs SlotBefore slots
  pub each : (slot : Slot) → Contains slots slot ↔ IsSlot grammar infos samples leaders known slot

-- ---- all parts
-- each pattern of present leaders once, with its count
pub record ArePatterns (leaders : List VarId) (samples : List (List Value)) (held : List Held) : Type 0 where
  pub form : AreHeld held
  pub counted : AreCounted (patterns_of leaders samples) held

-- The parts are what an engine keeps of the samples. Of no samples it keeps one class for each kind that occurs, and nothing else.
pub record IsKeptOf (grammar : Grammar) (infos : List VarInfo) (samples : List (List Value)) (kept : Kept) : Type 0 where
  pub number : kept.samples ≡ capped (length samples)
  pub leaders : AreLeaders (var_kinds infos) samples kept.leaders
  pub known : AreConstants (own_leaders kept.leaders) samples kept.known
  pub held : ArePatterns (own_leaders kept.leaders) samples kept.held
  pub slots : AreSlots grammar infos samples kept.leaders kept.known kept.slots

-- ---- what variables and samples an engine is given
-- variables of a point: no base one stands behind a derived one, so the leader of a base variable is a base one
pub record AreOfPoint (infos : List VarInfo) : Type 0 where
  pub few : length infos < 2 ^ 32
  pub base_first : AllPairs (λ (a b : VarInfo). IsTrue (is_base_form b.form) → IsTrue (is_base_form a.form)) infos

-- as many values as variables, each missing or of its variable's kind
abbrev pub AreOfKinds : List VarInfo → List Value → Type 0
AreOfKinds infos sample = AllZip (λ (info : VarInfo) x. IsOfKind info.kind x) infos sample

-- samples of these variables
abbrev pub AreSamples : List VarInfo → List (List Value) → Type 0
AreSamples infos samples = All (IsSample infos) samples

-- Parts of which patterns or slots were taken out can still be fed.
use Rattle.std.specs.Prelude.{◌≡◌, ◌≢◌, ℕ, [], All, Contains, List}
use Rattle.std.proofs.Common.{◌∙◌, ap, arith}
use Rattle.std.proofs.lemmas.List.Elements.{All-nil}
use Rattle.dk_base.specs.declared.kinds.VarId.{VarId}
use Rattle.dk_base.specs.declared.kinds.VarInfo.{VarInfo}
use Rattle.dk_base.specs.declared.values.Value.{Value}
use Rattle.dk_classes.specs.Leaders.{own_leaders}
use Rattle.dk_constants.specs.Known.{Entries}
use Rattle.dk_forms.specs.declared.states.State.TheVariants.{Broken}
use Rattle.dk_presence.specs.declared.held.Held.{Held}
use Rattle.dk_template.specs.Proper.{IsProper}
use Rattle.dk_template.specs.Templates.{form_of}
use Rattle.dk_template.specs.declared.grammar.Grammar.{Grammar}
use Rattle.dk_engine.specs.Feeding.{IsTurned}
use Rattle.dk_engine.specs.Feeding.Step.{IsPlaced}
use Rattle.dk_engine.specs.Saved.Conditions.{CanBeFed}
use Rattle.dk_engine.specs.declared.feed.now.Now.{Now}
use Rattle.dk_engine.specs.declared.kept.Kept.{Kept}
use Rattle.dk_engine.specs.declared.slots.slot.Slot.{Slot}

abbrev pub parts : List VarId → Entries → ℕ → List Held → List Slot → Kept
parts leaders known n held slots = record { samples = n; leaders = leaders; known = known; held = held; slots = slots }

pub patterns_out : (g : Grammar) (infos : List VarInfo) (kept : Kept) → CanBeFed g infos kept → CanBeFed g infos (parts kept.leaders kept.known kept.samples [] kept.slots)
patterns_out g infos kept can = record {
  readable = record { leaders = can.readable.leaders; values = can.readable.values; states = can.readable.states };
  constants_lead = can.constants_lead;
  patterns_lead = All-nil (λ (h : Held). All (Contains (own_leaders kept.leaders)) h.leaders);
  placed = can.placed;
  in_order = can.in_order;
  unbroken = can.unbroken;
}

pub slots_out : (g : Grammar) (infos : List VarInfo) (kept : Kept) → CanBeFed g infos kept → CanBeFed g infos (parts kept.leaders kept.known kept.samples kept.held [])
slots_out g infos kept can = record {
  readable = record { leaders = can.readable.leaders; values = can.readable.values; states = All-nil (λ (slot : Slot). IsProper (form_of slot.row) slot.state) };
  constants_lead = can.constants_lead;
  patterns_lead = can.patterns_lead;
  placed = All-nil (λ (slot : Slot). IsPlaced g infos kept.leaders slot.row slot.leaders);
  in_order = λ i j d l m. absurd (omega (arith, m));
  unbroken = All-nil (λ (slot : Slot). slot.state ≢ Broken);
}

-- what the sample makes of the other parts doesn't hang on the slots
pub turned_with : (kept : Kept) (slots : List Slot) (sample : List Value) (now : Now) → IsTurned kept sample now → IsTurned (parts kept.leaders kept.known kept.samples kept.held slots) sample now
turned_with kept slots sample now turned = record { leaders = turned.leaders; born = turned.born; first = turned.first; later = turned.later }

-- parts with the same leaders and constants
pub same_parts : (leaders : List VarId) (known : Entries) (n m : ℕ) (held more : List Held) (slots left : List Slot) → n ≡ m → held ≡ more → slots ≡ left
    → parts leaders known n held slots ≡ parts leaders known m more left
same_parts leaders known n m held more slots left a b c =
    ap (λ k. parts leaders known k held slots) a ∙ (ap (λ h. parts leaders known m h slots) b ∙ ap (parts leaders known m more) c)

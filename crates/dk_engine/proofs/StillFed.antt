-- Parts that can be fed can be fed again.
use Rattle.std.specs.Prelude.{List}
use Rattle.std.proofs.Common.{get_or, subst, sym}
use Rattle.std.proofs.lemmas.List.Elements.{Contains-get_or}
use Rattle.dk_base.specs.declared.kinds.VarInfo.{VarInfo}
use Rattle.dk_base.specs.declared.values.Value.{Value}
use Rattle.dk_classes.proofs.OwnLeaders.{own_ascend}
use Rattle.dk_classes.specs.Leaders.{own_leaders}
use Rattle.dk_instances.specs.Laws.{IsSample}
use Rattle.dk_template.specs.Proper.{IsProper}
use Rattle.dk_template.specs.Templates.{form_of}
use Rattle.dk_template.specs.declared.grammar.Grammar.{Grammar}
use Rattle.dk_engine.proofs.ReadProper.{read_after_proper}
use Rattle.dk_engine.proofs.SlotLists.{slot_given, slots_ascend}
use Rattle.dk_engine.proofs.Turned.{constants_now_lead, leaders_now, patterns_now_lead, values_now}
use Rattle.dk_engine.specs.Exact.{AreOfPoint}
use Rattle.dk_engine.specs.Feeding.{IsTurned, parts_after, read_after, slots_of}
use Rattle.dk_engine.specs.Saved.Conditions.{AreFormed, CanBeFed}
use Rattle.dk_engine.specs.declared.feed.now.Now.{Now}
use Rattle.dk_engine.specs.declared.kept.Kept.{Kept}
use Rattle.dk_engine.specs.declared.slots.slot.Slot.{Slot}

module _ (g : Grammar) (infos : List VarInfo) (point : AreOfPoint infos) (kept : Kept) (can : CanBeFed g infos kept) (sample : List Value) (sampled : IsSample infos sample) (now : Now) where
  -- the slots of a sweep
  pub swept_formed : AreFormed g infos now.leaders (slots_of g infos (own_leaders now.leaders) now.known (read_after kept sample))
  swept_formed =
      let slots = slots_of g infos (own_leaders now.leaders) now.known (read_after kept sample) in
      let each = slot_given g infos now.leaders (own_ascend now.leaders) now.known (read_after kept sample) in
      record {
        states = λ k d l.
            let slot : Slot = get_or slots k d in
            let told = each slot (Contains-get_or slots k d l) in
            subst (IsProper (form_of slot.row)) (sym told.1) (read_after_proper g infos point kept can.readable sample sampled slot.row told.0.over.of_grammar slot.leaders told.0.over.admitted);
        placed = λ k d l. (each (get_or slots k d) (Contains-get_or slots k d l)).0;
        in_order = slots_ascend g infos now.leaders (own_ascend now.leaders) now.known (read_after kept sample);
        unbroken = λ k d l. (each (get_or slots k d) (Contains-get_or slots k d l)).2;
      }

  pub can_be_fed_after : IsTurned kept sample now → (slots : List Slot) → AreFormed g infos now.leaders slots → CanBeFed g infos (parts_after kept.samples kept.held sample now slots)
  can_be_fed_after turned slots formed = record {
    readable = record {
      leaders = leaders_now g infos kept can sample now turned;
      values = values_now g infos kept can sample now turned sampled;
      states = formed.states;
    };
    constants_lead = constants_now_lead g infos kept can sample now turned;
    patterns_lead = patterns_now_lead g infos kept can sample now turned;
    placed = formed.placed;
    in_order = formed.in_order;
    unbroken = formed.unbroken;
  }

-- the slots as they stand, where nothing turned
pub kept_formed : (g : Grammar) (infos : List VarInfo) (kept : Kept) → CanBeFed g infos kept → AreFormed g infos kept.leaders kept.slots
kept_formed g infos kept can = record { states = can.readable.states; placed = can.placed; in_order = can.in_order; unbroken = can.unbroken }

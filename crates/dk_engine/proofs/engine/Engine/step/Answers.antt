use Rattle.std.specs.Prelude.{◌≡◌, ◌<◌, ◌++◌, [], true, All, List, length}
use Rattle.std.specs.List.{AllPairs}
use Rattle.std.proofs.Common.{subst, sym, ◌∙◌, ap}
use Rattle.std.proofs.lemmas.Result.{IfOk-weaker}
use Rattle.dk_base.specs.Values.{values_of}
use Rattle.dk_instances.specs.Laws.{IsSample}
use Rattle.dk_engine.proofs.Emptied.{parts, slots_out, turned_with}
use Rattle.dk_engine.proofs.Leaving.{left_formed}
use Rattle.dk_engine.proofs.Opened.{left_numbered, merged_formed, opened_numbered}
use Rattle.dk_engine.specs.Exact.{SlotBefore}
use Rattle.dk_engine.specs.Feeding.{IsTurned, parts_after, read_after}
use Rattle.dk_engine.specs.Feeding.Merged.{AreTogether, HasNumber}
use Rattle.dk_engine.specs.Feeding.Narrow.{AreFound, IsMergedStep, opened_slots, outcome, slots_left}
use Rattle.dk_engine.specs.Reading.Levels.{Whole}
use Rattle.dk_engine.specs.Saved.Conditions.{CanBeFed}
use Rattle.dk_engine.specs.declared.slots.slot.Slot.{Slot}
use Rattle.dk_engine.proofs.engine.Engine.step.Goals as goal

pub merge_slots-requires-clause-ascend : goal.merge_slots-requires-clause-ascend
merge_slots-requires-clause-ascend c =
    let e = c.self.inside in
    let sample = values_of c.args.sample.now in
    let made = outcome true (read_after e.kept sample) sample in
    let sampled : IsSample e.infos sample = subst (λ (w : Whole). IsSample w.infos sample) (sym c.self.view_is) c.requires.sampled in
    let found : AreFound made e.kept.slots c.args.found = subst (λ (w : Whole). AreFound (outcome true (read_after w.kept sample) sample) w.kept.slots c.args.found) (sym c.self.view_is) c.requires.found in
    let was : c.replace-slots.result ≡ e.kept.slots = c.replace-slots.ensures.value in
    let left : c.apply_changes.new.slots ≡ slots_left made e.kept.slots = c.apply_changes.ensures made (subst (λ (ss : List Slot). AreFound made ss c.args.found) (sym was) found) ∙ ap (slots_left made) was in
    let formed = left_formed e.grammar e.infos e.kept c.self.invariant.1 sample sampled true (read_after e.kept sample) in
    subst (AllPairs SlotBefore) (sym left) formed.in_order

pub merge_slots-requires-clause-left : goal.merge_slots-requires-clause-left
merge_slots-requires-clause-left c =
    let e = c.self.inside in
    let sample = values_of c.args.sample.now in
    let now = c.args.now in
    let made = outcome true (read_after e.kept sample) sample in
    let turned : IsTurned e.kept sample now = subst (λ (w : Whole). IsTurned w.kept sample now) (sym c.self.view_is) c.requires.turned in
    let sampled : IsSample e.infos sample = subst (λ (w : Whole). IsSample w.infos sample) (sym c.self.view_is) c.requires.sampled in
    let found : AreFound made e.kept.slots c.args.found = subst (λ (w : Whole). AreFound (outcome true (read_after w.kept sample) sample) w.kept.slots c.args.found) (sym c.self.view_is) c.requires.found in
    let was : c.replace-slots.result ≡ e.kept.slots = c.replace-slots.ensures.value in
    let left : c.apply_changes.new.slots ≡ slots_left made e.kept.slots = c.apply_changes.ensures made (subst (λ (ss : List Slot). AreFound made ss c.args.found) (sym was) found) ∙ ap (slots_left made) was in
    let formed = left_formed e.grammar e.infos e.kept c.self.invariant.1 sample sampled true (read_after e.kept sample) in
    subst (All HasNumber) (sym left) (left_numbered e.grammar e.infos c.self.invariant.0 e.kept c.self.invariant.1 sample sampled now turned (slots_left made e.kept.slots) formed)

pub merge_slots-requires-clause-opened : goal.merge_slots-requires-clause-opened
merge_slots-requires-clause-opened c =
    let e = c.self.inside in
    let sample = values_of c.args.sample.now in
    let now = c.args.now in
    let lost = c.args.lost.now in
    let turned : IsTurned e.kept sample now = subst (λ (w : Whole). IsTurned w.kept sample now) (sym c.self.view_is) c.requires.turned in
    let sampled : IsSample e.infos sample = subst (λ (w : Whole). IsSample w.infos sample) (sym c.self.view_is) c.requires.sampled in
    let within : All (λ k. k < length e.kept.slots) lost = subst (λ (w : Whole). All (λ k. k < length w.kept.slots) lost) (sym c.self.view_is) c.requires.within in
    let opened : c.args.opened ≡ opened_slots e.grammar e.infos (read_after e.kept sample) e.kept.slots now lost =
    subst (λ (w : Whole). c.args.opened ≡ opened_slots w.grammar w.infos (read_after w.kept sample) w.kept.slots now lost) (sym c.self.view_is) c.requires.opened in
    subst (All HasNumber) (sym opened) (opened_numbered e.grammar e.infos c.self.invariant.0 e.kept c.self.invariant.1 sample sampled now turned lost within)

together : (all others merged : List Slot) → all ≡ others → AreTogether all merged → AreTogether others merged
together all others merged same are = subst (λ ss. AreTogether ss merged) same are

pub invariant_of-self : goal.invariant_of-self
invariant_of-self c =
    let e = c.self.inside in
    let none : c.replace-slots.new.dest ≡ [] = c.replace-slots.ensures.after ∙ c.new.ensures in
    (c.self.invariant.0, subst (λ (ss : List Slot). CanBeFed e.grammar e.infos (parts e.kept.leaders e.kept.known e.kept.samples e.kept.held ss)) (sym none) (slots_out e.grammar e.infos e.kept c.self.invariant.1))

pub invariant_of-self-2 : goal.invariant_of-self-2
invariant_of-self-2 c =
    let e = c.self.inside in
    let none : c.replace-slots.new.dest ≡ [] = c.replace-slots.ensures.after ∙ c.new.ensures in
    (c.self.invariant.0, subst (λ (ss : List Slot). CanBeFed e.grammar e.infos (parts e.kept.leaders e.kept.known e.kept.samples e.kept.held ss)) (sym none) (slots_out e.grammar e.infos e.kept c.self.invariant.1))

pub set_parts-requires-clause-formed : goal.set_parts-requires-clause-formed
set_parts-requires-clause-formed c =
    let e = c.self.inside in
    let sample = values_of c.args.sample.now in
    let now = c.args.now in
    let lost = c.args.lost.now in
    let made = outcome true (read_after e.kept sample) sample in
    let turned : IsTurned e.kept sample now = subst (λ (w : Whole). IsTurned w.kept sample now) (sym c.self.view_is) c.requires.turned in
    let sampled : IsSample e.infos sample = subst (λ (w : Whole). IsSample w.infos sample) (sym c.self.view_is) c.requires.sampled in
    let within : All (λ k. k < length e.kept.slots) lost = subst (λ (w : Whole). All (λ k. k < length w.kept.slots) lost) (sym c.self.view_is) c.requires.within in
    let opened : c.args.opened ≡ opened_slots e.grammar e.infos (read_after e.kept sample) e.kept.slots now lost =
    subst (λ (w : Whole). c.args.opened ≡ opened_slots w.grammar w.infos (read_after w.kept sample) w.kept.slots now lost) (sym c.self.view_is) c.requires.opened in
    let found : AreFound made e.kept.slots c.args.found = subst (λ (w : Whole). AreFound (outcome true (read_after w.kept sample) sample) w.kept.slots c.args.found) (sym c.self.view_is) c.requires.found in
    let was : c.replace-slots.result ≡ e.kept.slots = c.replace-slots.ensures.value in
    let left = slots_left made e.kept.slots in
    let left_is : c.apply_changes.new.slots ≡ left = c.apply_changes.ensures made (subst (λ (ss : List Slot). AreFound made ss c.args.found) (sym was) found) ∙ ap (slots_left made) was in
    let formed = left_formed e.grammar e.infos e.kept c.self.invariant.1 sample sampled true (read_after e.kept sample) in
    let merged = c.in_ok-slots.slots in
    let are : AreTogether (left ++ opened_slots e.grammar e.infos (read_after e.kept sample) e.kept.slots now lost) merged =
    together (c.apply_changes.new.slots ++ c.args.opened) (left ++ opened_slots e.grammar e.infos (read_after e.kept sample) e.kept.slots now lost) merged (ap (λ ss. ss ++ c.args.opened) left_is ∙ ap (λ ss. left ++ ss) opened) c.in_ok-slots.ensures in
    merged_formed e.grammar e.infos c.self.invariant.0 e.kept c.self.invariant.1 sample sampled now turned lost within left merged formed are

pub set_parts-requires-clause-turned : goal.set_parts-requires-clause-turned
set_parts-requires-clause-turned c =
    let e = c.self.inside in
    let sample = values_of c.args.sample.now in
    turned_with e.kept c.replace-slots.new.dest sample c.args.now (subst (λ (w : Whole). IsTurned w.kept sample c.args.now) (sym c.self.view_is) c.requires.turned)

pub returns-clause-kept : goal.returns-clause-kept
returns-clause-kept c =
    let e = c.self.inside in
    let sample = values_of c.args.sample.now in
    let now = c.args.now in
    let lost = c.args.lost.now in
    let made = outcome true (read_after e.kept sample) sample in
    let opened : c.args.opened ≡ opened_slots e.grammar e.infos (read_after e.kept sample) e.kept.slots now lost =
    subst (λ (w : Whole). c.args.opened ≡ opened_slots w.grammar w.infos (read_after w.kept sample) w.kept.slots now lost) (sym c.self.view_is) c.requires.opened in
    let found : AreFound made e.kept.slots c.args.found = subst (λ (w : Whole). AreFound (outcome true (read_after w.kept sample) sample) w.kept.slots c.args.found) (sym c.self.view_is) c.requires.found in
    let was : c.replace-slots.result ≡ e.kept.slots = c.replace-slots.ensures.value in
    let left = slots_left made e.kept.slots in
    let left_is : c.apply_changes.new.slots ≡ left = c.apply_changes.ensures made (subst (λ (ss : List Slot). AreFound made ss c.args.found) (sym was) found) ∙ ap (slots_left made) was in
    let merged = c.in_ok-slots.slots in
    let after = c.set_parts.new.self.kept in
    let are : AreTogether (left ++ opened_slots e.grammar e.infos (read_after e.kept sample) e.kept.slots now lost) merged =
    together (c.apply_changes.new.slots ++ c.args.opened) (left ++ opened_slots e.grammar e.infos (read_after e.kept sample) e.kept.slots now lost) merged (ap (λ ss. ss ++ c.args.opened) left_is ∙ ap (λ ss. left ++ ss) opened) c.in_ok-slots.ensures in
    IfOk-weaker c.set_parts.result (λ (u : Unit {0}). after ≡ parts_after e.kept.samples e.kept.held sample now merged)
    (λ (u : Unit {0}). IsMergedStep c.args.self.now.grammar c.args.self.now.infos c.args.self.now.kept sample now lost after)
    (λ u h. subst (λ (w : Whole). IsMergedStep w.grammar w.infos w.kept sample now lost after) c.self.view_is (record { slots = merged; together = are; parts = h })) c.set_parts.ensures.kept

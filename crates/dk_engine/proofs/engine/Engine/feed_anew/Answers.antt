use Rattle.std.specs.Prelude.{◌≡◌, ◌<◌, ◌++◌, ◌∷◌, ℕ, [], All, List, true, filter, length, map}
use Rattle.std.proofs.Common.{get_or, subst, sym, ◌∙◌, ap, arith}
use Rattle.std.proofs.lemmas.List.Elements.{All-contains, Contains-get_or}
use Rattle.std.proofs.lemmas.Result.{IfOk-weaker}
use Rattle.dk_base.specs.Values.{values_of}
use Rattle.dk_base.specs.declared.values.Value.{Value}
use Rattle.dk_instances.proofs.Members.{contained, is_in, of_filter, of_map}
use Rattle.dk_forms.specs.declared.states.State.{State}
use Rattle.dk_engine.proofs.Fed.{fed_parts_exact, first_parts_exact}
use Rattle.dk_engine.proofs.Grown.{all_behind, found_lost, found_within}
use Rattle.dk_engine.proofs.Opened.{merged_parts_exact}
use Rattle.dk_engine.specs.Exact.{AreOfPoint, AreSamples, IsKeptOf}
use Rattle.dk_engine.specs.Feeding.{parts_after, read_after}
use Rattle.dk_engine.specs.Feeding.Narrow.{AreFound, IsChange, IsMergedStep, change_by, found_changes, loses_by, lost_places, outcome}
use Rattle.dk_engine.specs.Reading.Levels.{Whole}
use Rattle.dk_engine.specs.declared.feed.changes.Change.{Change}
use Rattle.dk_engine.specs.declared.feed.changes.SlotChanges.{SlotChanges}
use Rattle.dk_engine.specs.declared.kept.Kept.{Kept}
use Rattle.dk_engine.specs.declared.slots.slot.Slot.{Slot}
use Rattle.dk_engine.proofs.engine.Engine.feed_anew.Goals as goal

-- the lost places, of changes that are the same
lost_of : (slots : List Slot) (changes more : List Change) (lost : List ℕ) → changes ≡ more → lost ≡ lost_places slots changes → lost ≡ lost_places slots more
lost_of slots changes more lost f g = g ∙ ap (lost_places slots) f

-- the changes that are found beside growths
of_found : (made : Slot → State) (slots : List Slot) (found : SlotChanges) → AreFound made slots found → All (IsChange made slots) found.changes
of_found made slots found are = all_behind (IsChange made slots) (map (change_by slots) found.growths) found.changes are.changes.each

lost_within : (made : Slot → State) (slots : List Slot) (found : SlotChanges) → AreFound made slots found → All (λ k. k < length slots) (lost_places slots found.changes)
lost_within made slots found are k d l =
    let changes = found.changes in
    let lost = lost_places slots changes in
    let c = Contains-get_or lost k d l in
    let m = of_map {X = Change} {Y = ℕ} (λ (e : Change). e.place) (get_or lost k d) (filter (loses_by slots) changes) (is_in (get_or lost k d) lost c.0 c.1 c.2) in
    let f = of_filter (loses_by slots) m.0 changes m.1 in
    subst (λ n. n < length slots) (sym m.2) (All-contains (IsChange made slots) changes m.0 (of_found made slots found are) (contained m.0 changes f.0)).within

pub lost_places-requires : goal.lost_places-requires
lost_places-requires c =
    let w : Whole = c.args.self.now in
    let sample = values_of c.args.sample.now in
    let made = outcome true (read_after w.kept sample) sample in
    let found = c.in_ok-found.found in
    let changes = found.changes in
    let P : Change → Type 0 = λ d. d.place < length w.kept.slots in
    subst (λ (ds : List Change). All P ds) (sym c.as_slice.ensures) (found_within c.in_ok-found.ensures)

pub are_many-requires : goal.are_many-requires
are_many-requires c =
    let w : Whole = c.args.self.now in
    let sample = values_of c.args.sample.now in
    let made = outcome true (read_after w.kept sample) sample in
    let found = c.in_ok-found.found in
    let changes = found.changes in
    let lost : c.in_ok-lost.lost ≡ lost_places w.kept.slots changes = lost_of w.kept.slots c.as_slice.result.now changes c.in_ok-lost.lost c.as_slice.ensures c.in_ok-lost.ensures in
    subst (λ (ss : List Slot). All (λ k. k < length ss) c.as_slice-2.result.now) (sym c.slots.ensures)
    (subst (All (λ k. k < length w.kept.slots)) (sym (c.as_slice-2.ensures ∙ lost)) (lost_within made w.kept.slots found c.in_ok-found.ensures))

pub opened_slots-requires-clause-within : goal.opened_slots-requires-clause-within
opened_slots-requires-clause-within c =
    let w : Whole = c.args.self.now in
    let sample = values_of c.args.sample.now in
    let made = outcome true (read_after w.kept sample) sample in
    let found = c.in_ok-found.found in
    let changes = found.changes in
    let lost : c.in_ok-lost.lost ≡ lost_places w.kept.slots changes = lost_of w.kept.slots c.as_slice.result.now changes c.in_ok-lost.lost c.as_slice.ensures c.in_ok-lost.ensures in
    subst (All (λ k. k < length w.kept.slots)) (sym (c.as_slice-3.ensures ∙ lost)) (lost_within made w.kept.slots found c.in_ok-found.ensures)

pub step-requires-clause-within : goal.step-requires-clause-within
step-requires-clause-within c =
    let w : Whole = c.args.self.now in
    let sample = values_of c.args.sample.now in
    let made = outcome true (read_after w.kept sample) sample in
    let found = c.in_ok-found.found in
    let changes = found.changes in
    let lost : c.in_ok-lost.lost ≡ lost_places w.kept.slots changes = lost_of w.kept.slots c.as_slice.result.now changes c.in_ok-lost.lost c.as_slice.ensures c.in_ok-lost.ensures in
    subst (All (λ k. k < length w.kept.slots)) (sym (c.as_slice-4.ensures ∙ lost)) (lost_within made w.kept.slots found c.in_ok-found.ensures)

-- with the sample the parts are those of one sample more
abbrev With : Whole → List Value → Kept → Type 0
With w sample after = (samples : List (List Value)) → AreSamples w.infos samples → IsKeptOf w.grammar w.infos samples w.kept → IsKeptOf w.grammar w.infos (samples ++ sample ∷ []) after

pub returns-then-are_many-clause-stands : goal.returns-then-are_many-clause-stands
returns-then-are_many-clause-stands c =
    let w : Whole = c.args.self.now in
    let point : AreOfPoint w.infos = subst (λ (v : Whole). AreOfPoint v.infos) c.self.view_is c.self.invariant.0 in
    let sample = values_of c.args.sample.now in
    let now = c.in_ok-now.now in
    let after = c.set_parts-then-are_many.new.self.kept in
    IfOk-weaker c.set_parts-then-are_many.result (λ (u : Unit {0}). after ≡ parts_after w.kept.samples w.kept.held sample now c.in_ok-slots.slots) (λ (u : Unit {0}). With w sample after)
    (λ u h samples all is. fed_parts_exact w.grammar w.infos point samples all w.kept is sample c.requires now after (record {
      turned = c.in_ok-now.ensures;
      parts = h ∙ ap (parts_after w.kept.samples w.kept.held sample now) c.in_ok-slots.ensures.exact;
    })) c.set_parts-then-are_many.ensures.kept

pub returns-clause-stands : goal.returns-clause-stands
returns-clause-stands c =
    let w : Whole = c.args.self.now in
    let point : AreOfPoint w.infos = subst (λ (v : Whole). AreOfPoint v.infos) c.self.view_is c.self.invariant.0 in
    let sample = values_of c.args.sample.now in
    let found = c.in_ok-found.found in
    let changes = found.changes in
    let lost : c.in_ok-lost.lost ≡ lost_places w.kept.slots changes = lost_of w.kept.slots c.as_slice.result.now changes c.in_ok-lost.lost c.as_slice.ensures c.in_ok-lost.ensures in
    let now = c.in_ok-now.now in
    let same : c.self.inside.kept.samples ≡ w.kept.samples = ap (λ (v : Whole). v.kept.samples) c.self.view_is in
    let later : w.kept.samples ≡ 0 → ⊥ = λ e. c.if-self-eq0.false (same ∙ e) in
    let some : 0 < w.kept.samples = omega (arith, later) in
    let asked = c.as_slice-4.result.now in
    let is_lost : asked ≡ lost_places w.kept.slots (found_changes w.kept.slots found) = c.as_slice-4.ensures ∙ (lost ∙ sym (found_lost w.kept.slots found c.in_ok-found.ensures.growths)) in
    let after = c.step.new.self.kept in
    IfOk-weaker c.step.result (λ (u : Unit {0}). IsMergedStep w.grammar w.infos w.kept sample now asked after) (λ (u : Unit {0}). With w sample after)
    (λ u h samples all is. merged_parts_exact w.grammar w.infos point samples all w.kept is sample c.requires some now c.in_ok-now.ensures (found_changes w.kept.slots found) c.in_ok-found.ensures.changes after (subst (λ ls. IsMergedStep w.grammar w.infos w.kept sample now ls after) is_lost h)) c.step.ensures.kept

pub returns-then-self-eq0-clause-stands : goal.returns-then-self-eq0-clause-stands
returns-then-self-eq0-clause-stands c =
    let w : Whole = c.args.self.now in
    let point : AreOfPoint w.infos = subst (λ (v : Whole). AreOfPoint v.infos) c.self.view_is c.self.invariant.0 in
    let sample = values_of c.args.sample.now in
    let now = c.in_ok-now.now in
    let after = c.set_parts.new.self.kept in
    let same : c.self.inside.kept.samples ≡ w.kept.samples = ap (λ (v : Whole). v.kept.samples) c.self.view_is in
    let first : w.kept.samples ≡ 0 = sym same ∙ c.if-self-eq0.true in
    IfOk-weaker c.set_parts.result (λ (u : Unit {0}). after ≡ parts_after w.kept.samples w.kept.held sample now c.new-none.result) (λ (u : Unit {0}). With w sample after)
    (λ u h samples all is.
    subst (IsKeptOf w.grammar w.infos (samples ++ sample ∷ [])) (sym (h ∙ ap (parts_after w.kept.samples w.kept.held sample now) c.new-none.ensures))
    (first_parts_exact w.grammar w.infos point samples all w.kept is sample now c.in_ok-now.ensures first)) c.set_parts.ensures.kept

use Rattle.std.specs.Prelude.{◌≡◌, ◌+◌, [], List, map}
use Rattle.std.proofs.Common.{ap, rules, subst, sym, ◌∙◌}
use Rattle.dk_base.specs.Values.{values_of}
use Rattle.dk_classes.specs.Leaders.{own_leaders}
use Rattle.dk_instances.specs.Laws.{IsSample}
use Rattle.dk_presence.proofs.Refining.{refined_none}
use Rattle.dk_presence.specs.Patterns.{capped, present_in}
use Rattle.dk_presence.specs.Steps.{refined, with_sample_of}
use Rattle.dk_presence.specs.declared.held.Held.{Held}
use Rattle.dk_engine.proofs.Emptied.{parts, patterns_out, same_parts}
use Rattle.dk_engine.proofs.Leaving.{left_formed}
use Rattle.dk_engine.proofs.StillFed.{can_be_fed_after}
use Rattle.dk_engine.specs.Feeding.{IsTurned, parts_after, read_after, unchanged_now}
use Rattle.dk_engine.specs.Feeding.Narrow.{AreFound, outcome, slots_left}
use Rattle.dk_engine.specs.Reading.Levels.{Whole}
use Rattle.dk_engine.specs.Saved.Conditions.{CanBeFed}
use Rattle.dk_engine.proofs.engine.Engine.change.Goals as goal

pub invariant_of-self : goal.invariant_of-self
invariant_of-self c =
    let e = c.self.inside in
    (c.self.invariant.0, subst (λ (h : List Held). CanBeFed e.grammar e.infos (parts e.kept.leaders e.kept.known e.kept.samples h e.kept.slots)) (sym c.in_ok-none.ensures.exact) (patterns_out e.grammar e.infos e.kept c.self.invariant.1))

pub invariant_of-self-2 : goal.invariant_of-self-2
invariant_of-self-2 c =
    let e = c.self.inside in
    let sample = values_of c.args.sample.now in
    let asked = c.args.changes.asked in
    let now = unchanged_now e.kept in
    let made = outcome asked (read_after e.kept sample) sample in
    let left = slots_left made e.kept.slots in
    let turned : IsTurned e.kept sample now = subst (λ (w : Whole). IsTurned w.kept sample (unchanged_now w.kept)) (sym c.self.view_is) c.requires.turned in
    let sampled : IsSample e.infos sample = subst (λ (w : Whole). IsSample w.infos sample) (sym c.self.view_is) c.requires.sampled in
    let changes : AreFound made e.kept.slots c.args.changes.all =
    subst (λ (w : Whole). AreFound (outcome asked (read_after w.kept sample) sample) w.kept.slots c.args.changes.all) (sym c.self.view_is) c.requires.changes in
    let number : c.saturating_add-self-inside.result ≡ capped (e.kept.samples + 1) = search rules in
    let more = with_sample_of (present_in (own_leaders e.kept.leaders) sample) in
    let counted : c.count_sample.new.self ≡ more e.kept.held = search rules in
    let held : c.count_sample.new.self ≡ more (map (refined []) e.kept.held) = counted ∙ ap more (sym (refined_none e.kept.held)) in
    let slots : c.note_skips.new.self ≡ left = c.note_skips.ensures ∙ c.apply_changes.ensures made changes in (
      c.self.invariant.0,
      subst (CanBeFed e.grammar e.infos)
          (sym (same_parts e.kept.leaders e.kept.known c.saturating_add-self-inside.result (capped (e.kept.samples + 1)) c.count_sample.new.self (more (map (refined []) e.kept.held)) c.note_skips.new.self left number held slots))
          (can_be_fed_after e.grammar e.infos c.self.invariant.0 e.kept c.self.invariant.1 sample sampled now turned left (left_formed e.grammar e.infos e.kept c.self.invariant.1 sample sampled asked (read_after e.kept sample))),
    )

pub returns-clause-kept : goal.returns-clause-kept
returns-clause-kept c =
    let e = c.self.inside in
    let sample = values_of c.args.sample.now in
    let asked = c.args.changes.asked in
    let made = outcome asked (read_after e.kept sample) sample in
    let left = slots_left made e.kept.slots in
    let changes : AreFound made e.kept.slots c.args.changes.all =
    subst (λ (w : Whole). AreFound (outcome asked (read_after w.kept sample) sample) w.kept.slots c.args.changes.all) (sym c.self.view_is) c.requires.changes in
    let number : c.saturating_add-self-inside.result ≡ capped (e.kept.samples + 1) = search rules in
    let more = with_sample_of (present_in (own_leaders e.kept.leaders) sample) in
    let counted : c.count_sample.new.self ≡ more e.kept.held = search rules in
    let held : c.count_sample.new.self ≡ more (map (refined []) e.kept.held) = counted ∙ ap more (sym (refined_none e.kept.held)) in
    let slots : c.note_skips.new.self ≡ left = c.note_skips.ensures ∙ c.apply_changes.ensures made changes in
    same_parts e.kept.leaders e.kept.known c.saturating_add-self-inside.result (capped (e.kept.samples + 1)) c.count_sample.new.self (more (map (refined []) e.kept.held)) c.note_skips.new.self left number held slots
    ∙ ap (λ (w : Whole). parts_after w.kept.samples w.kept.held sample (unchanged_now w.kept) (slots_left (outcome asked (read_after w.kept sample) sample) w.kept.slots)) c.self.view_is

use Rattle.std.specs.Prelude.{◌<◌, All, List, length}
use Rattle.std.proofs.Common.{ap, subst, sym}
use Rattle.dk_base.specs.Values.{values_of}
use Rattle.dk_base.specs.declared.values.Value.{Value}
use Rattle.dk_engine.proofs.Grown.{found_within, of_some}
use Rattle.dk_engine.specs.Idle.{PassesStill}
use Rattle.dk_engine.specs.Reading.Levels.{OneMore, Whole}
use Rattle.dk_engine.specs.declared.feed.changes.Change.{Change}
use Rattle.dk_engine.specs.declared.slots.slot.Slot.{Slot}
use Rattle.dk_engine.proofs.engine.Engine.few_changes.Goals as goal

pub few_changes-requires-clause-skips : goal.few_changes-requires-clause-skips
few_changes-requires-clause-skips c =
    let slots = c.self.inside.kept.slots in
    let skips = c.skips-skips.result.now in
    let told : PassesStill (values_of c.args.sample.now) slots skips =
    subst (λ (w : Whole). PassesStill (values_of c.args.sample.now) w.kept.slots skips) (sym c.self.view_is) c.skips-skips.ensures in
    subst (λ (ss : List Slot). PassesStill c.of-after.result.sample ss skips) (sym c.as_slice-slots.ensures)
    (subst (λ (sample : List Value). PassesStill sample slots skips) (sym (ap (λ (o : OneMore). o.sample) c.of-after.ensures)) told)

pub lose_some-requires : goal.lose_some-requires
lose_some-requires c =
    subst (All (λ (d : Change). d.place < length c.as_slice-slots.result.now)) (sym c.as_slice.ensures) (found_within (of_some _ _ _ c.in-Some.all c.in-Some.is c.in_ok-all.ensures))

pub some_may_begin-requires : goal.some_may_begin-requires
some_may_begin-requires c =
    subst (All (λ (d : Change). d.place < length c.as_slice-slots.result.now)) (sym c.as_slice-then-not-new.ensures) (found_within (of_some _ _ _ c.in-Some.all c.in-Some.is c.in_ok-all.ensures))

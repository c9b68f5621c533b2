use Rattle.std.specs.Prelude.{List}
use Rattle.std.proofs.Common.{ap, subst, sym}
use Rattle.dk_base.specs.Values.{values_of}
use Rattle.dk_base.specs.declared.values.Value.{Value}
use Rattle.dk_engine.specs.Idle.{PassesStill}
use Rattle.dk_engine.specs.Reading.Levels.{OneMore, Whole}
use Rattle.dk_engine.specs.declared.slots.slot.Slot.{Slot}
use Rattle.dk_engine.proofs.engine.Engine.all_changes.Goals as goal

pub changes-requires-clause-skips : goal.changes-requires-clause-skips
changes-requires-clause-skips c =
    let slots = c.self.inside.kept.slots in
    let skips = c.skips-skips.result.now in
    let told : PassesStill (values_of c.args.sample.now) slots skips =
    subst (λ (w : Whole). PassesStill (values_of c.args.sample.now) w.kept.slots skips) (sym c.self.view_is) c.skips-skips.ensures in
    subst (λ (ss : List Slot). PassesStill c.of-after.result.sample ss skips) (sym c.as_slice.ensures)
    (subst (λ (sample : List Value). PassesStill sample slots skips) (sym (ap (λ (o : OneMore). o.sample) c.of-after.ensures)) told)

use Rattle.std.specs.Prelude.{◌+◌}
use Rattle.std.proofs.Common.{arith}
use Rattle.dk_engine.proofs.Grown.{found_stay}
use Rattle.dk_engine.proofs.Running.{passed_stay}
use Rattle.dk_engine.specs.Feeding.{read_after}
use Rattle.dk_engine.specs.Feeding.Narrow.{StayBetween, outcome}
use Rattle.dk_engine.specs.Feeding.Step.{Answer}
use Rattle.dk_engine.specs.Reading.Levels.{OneMore}
use Rattle.dk_engine.proofs.feed.changes.add_seen.Goals as goal

pub loop-place-init : goal.loop-place-init
loop-place-init c =
    let o : OneMore = c.args.after.now in
    let slots = c.args.slots.now in
    let asked = c.args.asked in
    let after : Answer = read_after o.whole.kept o.sample in
    let from = c.args.from in
    let to = c.args.to in
    let told = c.passed_to-place.ensures in
    let next = c.passed_to-place.result in
    let still : StayBetween from next (outcome asked after o.sample) slots =
    passed_stay asked after o.sample slots c.requires.unbroken from to c.requires.to c.requires.stay_open c.args.skips.now c.requires.skips from next (omega arith) told.to told.passed in
    (found_stay (outcome asked after o.sample) slots from c.args.found.now c.requires.below next still, told.from, told.to)

pub loop-place-preserved : goal.loop-place-preserved
loop-place-preserved c =
    let o : OneMore = c.args.after.now in
    let slots = c.args.slots.now in
    let asked = c.args.asked in
    let after : Answer = read_after o.whole.kept o.sample in
    let from = c.args.from in
    let to = c.args.to in
    let place = c.loop-place.place in
    let first = c.loop-place.invariant.1 in
    let told = c.passed_to-place-in-loop-place.ensures in
    let behind = told.from in
    let next = c.passed_to-place-in-loop-place.result in
    let still : StayBetween (place + 1) next (outcome asked after o.sample) slots =
    passed_stay asked after o.sample slots c.requires.unbroken from to c.requires.to c.requires.stay_open c.args.skips.now c.requires.skips (place + 1) next (omega (arith, first)) told.to told.passed in
    (found_stay (outcome asked after o.sample) slots (place + 1) c.push_found.new.found c.in_ok-push_found.ensures next still, omega (arith, first, behind), told.to)

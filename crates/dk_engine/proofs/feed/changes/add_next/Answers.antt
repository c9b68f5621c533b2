use Rattle.std.specs.Prelude.{◌≡◌, ◌&&◌, false, length}
use Rattle.std.proofs.Common.{ap, arith, rules}
use Rattle.dk_engine.proofs.Grown.{found_stay}
use Rattle.dk_engine.proofs.Running.{passed_stay}
use Rattle.dk_engine.specs.Feeding.{read_after}
use Rattle.dk_engine.specs.Feeding.Narrow.{StayBetween, outcome}
use Rattle.dk_engine.specs.Feeding.Step.{Answer, can_close}
use Rattle.dk_engine.specs.Reading.Levels.{OneMore}
use Rattle.dk_engine.specs.Reading.Parts.{slot_in}
use Rattle.dk_engine.proofs.feed.changes.add_next.Goals as goal

pub returns-then-place-passed-clause-below : goal.returns-then-place-passed-clause-below
returns-then-place-passed-clause-below c =
    let o : OneMore = c.args.after.now in
    let slots = c.args.slots.now in
    let asked = c.args.asked in
    let after : Answer = read_after o.whole.kept o.sample in
    let place = c.args.place in
    let told = c.passed_to-passed.ensures in
    let next = c.passed_to-passed.result in
    let within = c.requires.within in
    let off : asked ≡ false = search rules in
    let still : StayBetween place next (outcome asked after o.sample) slots =
    passed_stay asked after o.sample slots c.requires.unbroken place (length slots) (omega arith) (λ k a b. ap (λ t. t && can_close (slot_in slots k)) off) c.args.skips.now c.requires.skips place next (omega arith) told.to told.passed in
    found_stay (outcome asked after o.sample) slots place c.args.found.now c.requires.below next still

use Rattle.std.proofs.Common.{arith}
use Rattle.dk_engine.proofs.Running.{AreStill, passed_still, still_on}
use Rattle.dk_engine.specs.Reading.Levels.{OneMore}
use Rattle.dk_engine.proofs.feed.runs.still_among.Goals as goal

pub loop-place-init : goal.loop-place-init
loop-place-init c =
    let o : OneMore = c.args.after.now in
    let told = c.passed_to-place.ensures in
    let next = c.passed_to-place.result in
    let still : AreStill c.args.row o.sample c.args.slots.now c.args.from next =
    passed_still c.args.row o.sample c.args.slots.now c.args.skips.now c.requires.skips c.args.from c.args.to c.requires.of_row c.args.from next (omega arith) told.to told.passed in
    (still, told.from, told.to)

pub loop-place-preserved : goal.loop-place-preserved
loop-place-preserved c =
    let o : OneMore = c.args.after.now in
    let row = c.args.row in
    let slots = c.args.slots.now in
    let from = c.args.from in
    let to = c.args.to in
    let place = c.loop-place.place in
    let first = c.loop-place.invariant.1 in
    let looked = c.looked_to-end.ensures in
    let end = c.looked_to-end.result in
    let behind = looked.from in
    let run = c.run_to-next.ensures in
    let near = run.to in
    let far = c.if-next-end.false in
    let told = c.passed_to-place-in-loop-place.ensures in
    let on = told.from in
    let next = c.passed_to-place-in-loop-place.result in
    let all : AreStill row o.sample slots place end = λ k a b. run.still k a (omega (arith, b, far)) in
    let passed : AreStill row o.sample slots end next =
    passed_still row o.sample slots c.args.skips.now c.requires.skips from to c.requires.of_row end next (omega (arith, first, behind)) told.to told.passed in
    (still_on row o.sample slots from end next (still_on row o.sample slots from place end c.loop-place.invariant.0 all) passed, omega (arith, first, behind, on), told.to)

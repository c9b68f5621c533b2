use Rattle.std.specs.Prelude.{◌+◌, ◌-◌, ◌/◌, ◌<◌, ℕ, length}
use Rattle.std.proofs.Common.{◌∙◌, arith, sym}
use Rattle.dk_engine.proofs.SlotPlaces.{behind_from, front_to}
use Rattle.dk_engine.proofs.slots.places.place_of.Goals as goal

pub loop-low-preserved-then-is_before : goal.loop-low-preserved-then-is_before
loop-low-preserved-then-is_before c =
    let slots = c.args.slots.now in
    let middle : ℕ = c.loop-low.low + (c.loop-low.high - c.loop-low.low) / 2 in
    let under = c.loop-low-test.true in
    let to = c.loop-low.invariant.1 in
    let within : middle < length slots = omega (arith, under, to) in
    let front = front_to c.args.row c.args.leaders.now slots c.requires middle c.index-slots-middle.result within c.index-slots-middle.is (sym c.is_before.ensures ∙ c.if-is_before.true) in
    (omega (arith, under), to, front, c.loop-low.invariant.3)

pub loop-low-preserved : goal.loop-low-preserved
loop-low-preserved c =
    let slots = c.args.slots.now in
    let middle : ℕ = c.loop-low.low + (c.loop-low.high - c.loop-low.low) / 2 in
    let under = c.loop-low-test.true in
    let to = c.loop-low.invariant.1 in
    let within : middle < length slots = omega (arith, under, to) in
    let behind = behind_from c.args.row c.args.leaders.now slots c.requires middle c.index-slots-middle.result within c.index-slots-middle.is (sym c.is_before.ensures ∙ c.if-is_before.false) in
    (omega (arith, under), omega (arith, within), c.loop-low.invariant.2, behind)

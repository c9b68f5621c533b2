use Rattle.std.specs.Prelude.{◌-◌, List, drop, take}
use Rattle.std.proofs.Common.{arith, subst, sym}
use Rattle.dk_base.specs.declared.values.Value.{Value}
use Rattle.dk_engine.proofs.Running.{IsStill, run_of_slots, still_from}
use Rattle.dk_engine.specs.Reading.Levels.{OneMore}
use Rattle.dk_engine.specs.Reading.Parts.{slot_in}
use Rattle.dk_engine.specs.declared.slots.slot.Slot.{Slot}
use Rattle.dk_grammar.specs.Runs.{AreSlots}
use Rattle.dk_engine.proofs.feed.runs.run_to.Goals as goal

pub still-requires-clause-run : goal.still-requires-clause-run
still-requires-clause-run c =
    let o : OneMore = c.args.after.now in
    let slots = c.args.slots.now in
    let row = c.args.row in
    let from = c.args.from in
    let n = c.args.to - from in
    let run : List Slot = take n (drop from slots) in
    let order = c.requires.from in
    subst (λ (sample : List Value). AreSlots (λ (s : Slot). s.leaders) (λ (s : Slot). s.state) row sample run) (sym c.sample.ensures.sample)
    (run_of_slots slots from n row (λ k a b. c.requires.of_row k a (omega (arith, b, order))) o.whole.grammar o.whole.infos o.whole.kept.leaders o.sample c.sample.ensures.sampled c.requires.placed c.requires.proper)

pub returns-clause-still : goal.returns-clause-still
returns-clause-still c =
    let o : OneMore = c.args.after.now in
    let slots = c.args.slots.now in
    let row = c.args.row in
    let from = c.args.from in
    let n = c.args.to - from in
    let run : List Slot = take n (drop from slots) in
    let order = c.requires.from in
    still_from slots from n row (λ k a b. c.requires.of_row k a (omega (arith, b, order))) o.sample c.still.result c.still.ensures.within
    (λ k l. subst (λ (sample : List Value). IsStill row sample (slot_in run k)) c.sample.ensures.sample (c.still.ensures.still k l))

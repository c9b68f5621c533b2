use Rattle.std.specs.Prelude.{◌≡◌, ◌&&◌, true}
use Rattle.std.proofs.Common.{ap, ◌∙◌}
use Rattle.dk_engine.proofs.Running.{in_run}
use Rattle.dk_engine.specs.Feeding.Narrow.{is_in_run}
use Rattle.dk_engine.specs.Feeding.Step.{can_close}
use Rattle.dk_engine.specs.Reading.Parts.{slot_in}
use Rattle.dk_engine.proofs.feed.runs.run_end.Goals as goal

pub returns-then-asked-clause-run : goal.returns-then-asked-clause-run
returns-then-asked-clause-run c k from to =
    let slots = c.args.slots.now in
    ap (λ b. is_in_run b (slot_in slots c.args.place).row (slot_in slots k)) c.if-asked.true ∙ c.open_end.ensures.run k from to

pub returns-else-asked-clause-run : goal.returns-else-asked-clause-run
returns-else-asked-clause-run c k from to =
    let slots = c.args.slots.now in
    in_run c.args.asked (slot_in slots c.args.place).row (slot_in slots k) (c.end_of_row.ensures.of_row k from to) (ap (λ b. b && can_close (slot_in slots k)) c.if-asked.false)

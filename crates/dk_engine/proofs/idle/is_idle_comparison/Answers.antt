use Rattle.std.proofs.Common.{◌∙◌, sym}
use Rattle.dk_engine.proofs.Bounding.{holds_of}
use Rattle.dk_engine.proofs.KnownNumbers.{idle_comparison, idle_told}
use Rattle.dk_engine.proofs.idle.is_idle_comparison.Goals as goal

pub returns-then-is_known : goal.returns-then-is_known
returns-then-is_known c h =
    let slot = c.args.slot.now in
    let holds = holds_of slot.state (sym c.holds.ensures ∙ c.if-not-holds.false) in
    idle_told c.args.watch.now slot c.requires.from c.requires.to c.args.u c.args.v c.requires.leaders holds (c.is_known.ensures c.if-is_known.true)

pub returns : goal.returns
returns c h =
    let slot = c.args.slot.now in
    let holds = holds_of slot.state (sym c.holds.ensures ∙ c.if-not-holds.false) in
    idle_comparison c.args.watch.now slot c.requires.from c.requires.to c.args.u c.args.v c.requires.leaders holds (c.is_next.ensures h)

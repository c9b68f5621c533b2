use Rattle.std.specs.Prelude.{◌&&◌, not}
use Rattle.std.specs.List.{list_any}
use Rattle.std.proofs.Common.{ap, ◌∙◌}
use Rattle.dk_template.specs.Premises.{suffices}
use Rattle.dk_engine.proofs.Losing.{asked_lose}
use Rattle.dk_engine.proofs.feed.changes.loses.Goals as goal

pub loop-premise-init : goal.loop-premise-init
loop-premise-init c =
    ap (list_any (λ p. suffices p c.args.old.now && not (suffices p c.args.new.now))) c.asked_of-premise-items.ensures ∙ asked_lose c.args.row c.args.old.now c.args.new.now

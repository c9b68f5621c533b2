use Rattle.std.specs.Prelude.{◌≡◌, ◌&&◌, drop, not}
use Rattle.std.specs.List.{list_any}
use Rattle.dk_template.specs.Premises.{suffices}
use Rattle.dk_engine.specs.Feeding.Narrow.{loses}
use Rattle.dk_engine.proofs.feed.changes.loses.Given as goal

abbrev pub invariant-loop-premise : goal.invariant-loop-premise
invariant-loop-premise l = list_any (λ p. suffices p l.old && not (suffices p l.new)) (drop l.premise-index l.premise-items) ≡ loses l.fn.row l.old l.new

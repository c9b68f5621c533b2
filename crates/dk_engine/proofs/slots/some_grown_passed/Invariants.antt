use Rattle.std.specs.Prelude.{◌≡◌, drop}
use Rattle.std.specs.List.{list_any}
use Rattle.dk_engine.specs.Idle.{is_passed}
use Rattle.dk_engine.specs.declared.feed.growing.Growth.{Growth}
use Rattle.dk_engine.proofs.slots.some_grown_passed.Given as goal

abbrev pub invariant-loop-growth : goal.invariant-loop-growth
invariant-loop-growth l = list_any (λ (g : Growth). is_passed l.skips g.place) (drop l.growth-index l.growths) ≡ list_any (λ (g : Growth). is_passed l.skips g.place) l.growths

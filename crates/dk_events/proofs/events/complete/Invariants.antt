use Rattle.std.proofs.Common.{◌≡◌, length}
use Rattle.dk_events.specs.Following.{AreVarsOfFirst}
use Rattle.dk_events.proofs.events.complete.Given as goal

abbrev pub invariant-loop-place : goal.invariant-loop-place
invariant-loop-place l = record {
  first : AreVarsOfFirst l.points l.vars.items;
  many : length l.vars.items ≡ l.place;
}

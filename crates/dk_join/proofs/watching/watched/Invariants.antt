use Rattle.std.specs.Prelude.{◌≡◌, ◌-◌, ◌++◌}
use Rattle.dk_join.specs.Watched.{watched, with_below}
use Rattle.dk_join.proofs.watching.watched.Given as goal

abbrev pub invariant-loop : goal.invariant-loop
invariant-loop l = l.list.items ++ with_below (3 - l.counter) l.level.items ≡ watched l.fn.row

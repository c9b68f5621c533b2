use Rattle.std.specs.Prelude.{◌≡◌, filter, take}
use Rattle.dk_join.specs.Beside.{is_near}
use Rattle.dk_join.proofs.beside.near.Given as goal

abbrev pub invariant-loop-w : goal.invariant-loop-w
invariant-loop-w l = l.list.items ≡ filter is_near (take l.w-index l.beside)

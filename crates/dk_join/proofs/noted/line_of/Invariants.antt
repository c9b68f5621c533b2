use Rattle.std.specs.Prelude.{◌≡◌, map, take}
use Rattle.dk_join.specs.Noted.{equal_numbers}
use Rattle.dk_join.proofs.noted.line_of.Given as goal

abbrev pub invariant-loop-w : goal.invariant-loop-w
invariant-loop-w l = l.line.items ≡ map (λ w. equal_numbers l.engine l.v w) (take l.w-index l.leaders)

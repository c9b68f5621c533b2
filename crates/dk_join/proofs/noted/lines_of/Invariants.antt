use Rattle.std.specs.Prelude.{◌≡◌, map, take}
use Rattle.dk_join.specs.Noted.{equal_lines}
use Rattle.dk_join.proofs.noted.lines_of.Given as goal

abbrev pub invariant-loop-v : goal.invariant-loop-v
invariant-loop-v l = map (λ k. k.items) l.lines.items ≡ equal_lines l.engine (take l.v-index l.firsts) l.leaders

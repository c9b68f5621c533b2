use Rattle.std.specs.Prelude.{◌≡◌, ◌++◌, take}
use Rattle.dk_implications.specs.Telling.{told_lines}
use Rattle.dk_implications.proofs.telling.Telling.push_told_lines.Given as goal

abbrev pub invariant-loop-instance : goal.invariant-loop-instance
invariant-loop-instance l = l.text ≡ l.fn.text ++ told_lines l.self.whole.now l.b l.truth (take l.instance-index l.list)

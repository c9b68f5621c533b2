use Rattle.std.proofs.Common.{◌≡◌, ◌↔◌, drop}
use Rattle.dk_base.specs.Names.{unescaped}
use Rattle.dk_base.proofs.names.is_spelled.Given as goal

abbrev pub invariant-loop-expected : goal.invariant-loop-expected
invariant-loop-expected l = (unescaped l.left ≡ drop l.expected-index l.name) ↔ (unescaped l.text ≡ l.name)

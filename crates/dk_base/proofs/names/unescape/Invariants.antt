use Rattle.std.proofs.Common.{◌≡◌, ◌++◌, length}
use Rattle.dk_base.specs.Names.{unescaped}
use Rattle.dk_base.proofs.names.unescape.Given as goal

abbrev pub invariant-bytes : goal.invariant-bytes
invariant-bytes l = l.name ++ unescaped l.left ≡ unescaped l.text

abbrev pub decreases-bytes : goal.decreases-bytes
decreases-bytes l = length l.left

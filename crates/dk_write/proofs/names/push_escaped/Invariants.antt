use Rattle.std.proofs.Common.{◌≡◌, ◌++◌, take}
use Rattle.dk_base.specs.Names.{escaped}
use Rattle.dk_write.proofs.names.push_escaped.Given as goal

abbrev pub invariant-loop-byte : goal.invariant-loop-byte
invariant-loop-byte l = l.text ≡ l.fn.text ++ escaped (take l.byte-index l.name)

use Rattle.std.proofs.Common.{◌≡◌, ◌++◌, drop}
use Rattle.dk_base.specs.Names.{escaped}
use Rattle.dk_base.proofs.names.spell_name.Given as goal

abbrev pub invariant-loop-byte : goal.invariant-loop-byte
invariant-loop-byte l = l.text ++ escaped (drop l.byte-index l.name) ≡ escaped l.name

use Rattle.std.proofs.Common.{◌≡◌, ◌++◌, take}
use Rattle.std.specs.List.{flat_map}
use Rattle.dk_languages.specs.Literals.{smtlib_byte}
use Rattle.dk_languages.proofs.literals.push_smtlib_bytes.Given as goal

abbrev pub invariant-loop-byte : goal.invariant-loop-byte
invariant-loop-byte l = l.text ≡ l.fn.text ++ flat_map smtlib_byte (take l.byte-index l.bytes)

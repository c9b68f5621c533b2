use Rattle.std.proofs.Common.{◌≡◌, ◌++◌, map, take}
use Rattle.dk_functions.specs.Functions.{symbol_byte}
use Rattle.dk_functions.proofs.functions.push_symbol_bytes.Given as goal

abbrev pub invariant-loop-byte : goal.invariant-loop-byte
invariant-loop-byte l = l.text ≡ l.fn.text ++ map symbol_byte (take l.byte-index l.bytes)

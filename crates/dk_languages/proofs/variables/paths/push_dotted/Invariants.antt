use Rattle.std.proofs.Common.{◌≡◌, ◌++◌, take}
use Rattle.dk_languages.specs.Bases.Paths.{dotted}
use Rattle.dk_languages.proofs.variables.paths.push_dotted.Given as goal

abbrev pub invariant-loop-byte : goal.invariant-loop-byte
invariant-loop-byte l = l.text ≡ l.fn.text ++ dotted (take l.byte-index l.path)

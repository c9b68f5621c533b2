use Rattle.std.proofs.Common.{◌≡◌, take}
use Rattle.std.specs.List.{fold}
use Rattle.dk_languages.specs.Literals.Escapes.{after_escape}
use Rattle.dk_languages.specs.declared.literals.escapes.Escape.TheVariants.{Outside}
use Rattle.dk_languages.proofs.literals.escapes.behind.Given as goal

abbrev pub invariant-loop-byte : goal.invariant-loop-byte
invariant-loop-byte l = l.escape ≡ fold after_escape Outside (take l.byte-index l.bytes)

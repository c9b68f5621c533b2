use Rattle.std.proofs.Common.{◌≡◌, take}
use Rattle.std.specs.List.{fold}
use Rattle.dk_languages.specs.Bases.Paths.{after_byte}
use Rattle.dk_languages.specs.declared.variables.paths.Place.TheVariants.{Begin}
use Rattle.dk_languages.proofs.variables.paths.behind.Given as goal

abbrev pub invariant-loop-byte : goal.invariant-loop-byte
invariant-loop-byte l = l.place ≡ fold after_byte Begin (take l.byte-index l.name)

use Rattle.std.proofs.Common.{◌≡◌, ◌++◌, take}
use Rattle.std.specs.List.{flat_map}
use Rattle.dk_languages.specs.Holes.{filled_letter}
use Rattle.dk_languages.proofs.fillings.push_filled.Given as goal

abbrev pub invariant-loop-letter : goal.invariant-loop-letter
invariant-loop-letter l = l.text ≡ l.fn.text ++ flat_map (filled_letter l.fillings) (take l.letter-index l.letters)

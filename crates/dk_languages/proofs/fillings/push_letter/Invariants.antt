use Rattle.std.proofs.Common.{◌≡◌, drop}
use Rattle.dk_languages.specs.Holes.{filled_letter}
use Rattle.dk_languages.proofs.fillings.push_letter.Given as goal

abbrev pub invariant-loop-filling : goal.invariant-loop-filling
invariant-loop-filling l =
    (l.text ≡ l.fn.text) × (filled_letter (drop l.filling-index l.fillings) l.letter ≡ filled_letter l.fillings l.letter)

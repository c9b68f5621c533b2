use Rattle.std.proofs.Common.{◌≡◌, map, take}
use Rattle.dk_arguments.proofs.matches.words_of.Given as goal

abbrev pub invariant-loop-text : goal.invariant-loop-text
invariant-loop-text l = l.words ≡ map (λ text. text.now) (take l.text-index l.texts)

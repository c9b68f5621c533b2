use Rattle.std.proofs.Common.{◌≡◌, ◌++◌, length, map}
use Rattle.dk_base.specs.Words.{words}
use Rattle.dk_base.proofs.splitting.blanks.words.Given as goal

abbrev pub invariant-words : goal.invariant-words
invariant-words l = map (λ word. word.now) l.found.items ++ words l.left ≡ words l.bytes

abbrev pub decreases-words : goal.decreases-words
decreases-words l = length l.left

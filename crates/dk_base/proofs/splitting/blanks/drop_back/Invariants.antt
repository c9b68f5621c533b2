use Rattle.std.proofs.Common.{◌≡◌, length, reverse}
use Rattle.dk_base.specs.Words.{without_front}
use Rattle.dk_base.proofs.splitting.blanks.drop_back.Given as goal

abbrev pub invariant-back : goal.invariant-back
invariant-back l = without_front (reverse l.left) ≡ without_front (reverse l.bytes)

abbrev pub decreases-back : goal.decreases-back
decreases-back l = length l.left

use Rattle.std.proofs.Common.{◌≡◌, length}
use Rattle.dk_base.specs.Words.{without_front}
use Rattle.dk_base.proofs.splitting.blanks.drop_front.Given as goal

abbrev pub invariant-front : goal.invariant-front
invariant-front l = without_front l.left ≡ without_front l.bytes

abbrev pub decreases-front : goal.decreases-front
decreases-front l = length l.left

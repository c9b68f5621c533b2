use Rattle.std.proofs.Common.{◌≡◌, drop}
use Rattle.dk_base.specs.Pieces.{pieces}
use Rattle.dk_base.proofs.splitting.next_piece.Given as goal

abbrev pub invariant-loop-i : goal.invariant-loop-i
invariant-loop-i l = pieces l.cut (drop l.i l.text) ≡ pieces l.cut l.text

use Rattle.std.proofs.Common.{◌≡◌, drop, take}
use Rattle.dk_base.specs.Pieces.{outside, parts, behind}
use Rattle.dk_base.proofs.splitting.piece_len.Given as goal

abbrev pub invariant-loop-i : goal.invariant-loop-i
invariant-loop-i l = record {
  first : l.i ≡ 0 → l.place ≡ outside;
  so_far : behind (take l.i l.text) (parts l.cut l.place (drop l.i l.text)) ≡ parts l.cut outside l.text;
}

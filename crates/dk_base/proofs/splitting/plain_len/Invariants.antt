use Rattle.std.proofs.Common.{◌≡◌, drop, take}
use Rattle.dk_base.specs.Pieces.{outside, parts, behind}
use Rattle.dk_base.proofs.splitting.plain_len.Given as goal

abbrev pub invariant-loop-i : goal.invariant-loop-i
invariant-loop-i l = behind (take l.i l.text) (parts l.fn.cut outside (drop l.i l.text)) ≡ parts l.fn.cut outside l.text

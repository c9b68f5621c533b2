use Rattle.std.proofs.Common.{◌≡◌, ◌+◌, drop}
use Rattle.dk_calls.specs.Origs.{own_len}
use Rattle.dk_calls.proofs.origs.own_len.Given as goal

abbrev pub invariant-loop-i : goal.invariant-loop-i
invariant-loop-i l = l.i + own_len (drop l.i l.vars) ≡ own_len l.vars

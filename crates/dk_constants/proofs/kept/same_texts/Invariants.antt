use Rattle.std.proofs.Common.{◌≡◌, take, map}
use Rattle.dk_constants.proofs.kept.same_texts.Given as goal

abbrev pub invariant-loop-i : goal.invariant-loop-i
invariant-loop-i l = take l.i (map (λ t. t.now) l.a) ≡ take l.i l.b

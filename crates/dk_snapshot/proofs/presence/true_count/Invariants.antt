use Rattle.std.proofs.Common.{◌≡◌, take}
use Rattle.std.specs.List.{count_by}
use Rattle.dk_snapshot.proofs.presence.true_count.Given as goal

abbrev pub invariant-loop-truth : goal.invariant-loop-truth
invariant-loop-truth l = l.count ≡ count_by (λ t. t) (take l.truth-index l.truths)

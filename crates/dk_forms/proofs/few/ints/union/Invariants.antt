use Rattle.std.proofs.Common.{◌≡◌, ◌≤◌, drop, length}
use Rattle.std.specs.Ordering.{int_cmp}
use Rattle.dk_forms.specs.Known.Distinct.{put_all}
use Rattle.dk_forms.proofs.few.ints.union.Given as goal

abbrev pub invariant-loop-x : goal.invariant-loop-x
invariant-loop-x l = (length l.all ≤ 3) × (put_all int_cmp (drop l.x-index l.xs) l.all ≡ put_all int_cmp l.xs l.fn.ys)

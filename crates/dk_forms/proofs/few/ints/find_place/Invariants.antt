use Rattle.std.proofs.Common.{◌≡◌, ◌++◌, ◌≤◌, take, drop, length}
use Rattle.std.specs.Ordering.{int_cmp}
use Rattle.dk_forms.specs.Known.Distinct.{put}
use Rattle.dk_forms.proofs.few.ints.find_place.Given as goal

abbrev pub invariant-loop-i : goal.invariant-loop-i
invariant-loop-i l = (l.i ≤ length l.items) × (put int_cmp l.fn.x l.items ≡ take l.i l.items ++ put int_cmp l.fn.x (drop l.i l.items))

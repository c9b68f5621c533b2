use Rattle.std.proofs.Common.{◌≡◌, ◌++◌, ◌≤◌, take, drop, length}
use Rattle.std.specs.Ordering.{nat_cmp}
use Rattle.std.specs.Cmp.Lexicographic.{slice_cmp}
use Rattle.dk_forms.specs.Known.Distinct.{put}
use Rattle.dk_forms.proofs.few.texts.find_text.Given as goal

abbrev pub invariant-loop-i : goal.invariant-loop-i
invariant-loop-i l = (l.i ≤ length l.items) × (put (slice_cmp nat_cmp) l.x l.items ≡ take l.i l.items ++ put (slice_cmp nat_cmp) l.x (drop l.i l.items))

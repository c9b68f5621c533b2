use Rattle.std.proofs.Common.{◌≡◌, ◌≤◌, drop, length}
use Rattle.std.specs.Ordering.{nat_cmp}
use Rattle.std.specs.Cmp.Lexicographic.{slice_cmp}
use Rattle.dk_forms.specs.Known.Distinct.{put_all}
use Rattle.dk_forms.proofs.few.texts.union_texts.Given as goal

abbrev pub invariant-loop-x : goal.invariant-loop-x
invariant-loop-x l = (length l.all ≤ 3) × (put_all (slice_cmp nat_cmp) (drop l.x-index l.xs) l.all ≡ put_all (slice_cmp nat_cmp) l.xs l.fn.ys)

use Rattle.std.proofs.Common.{◌≡◌, ◌≤◌, [], drop, length, map}
use Rattle.std.specs.Ordering.{nat_cmp}
use Rattle.std.specs.Cmp.Lexicographic.{slice_cmp}
use Rattle.dk_forms.specs.Known.Distinct.{put_all}
use Rattle.dk_forms.proofs.few.texts.union_values.Given as goal

abbrev pub invariant-loop-value : goal.invariant-loop-value
invariant-loop-value l =
    (length l.all ≤ 3) × (put_all (slice_cmp nat_cmp) (drop l.value-index (map (λ t. t.now) l.values)) l.all ≡ put_all (slice_cmp nat_cmp) (map (λ t. t.now) l.values) [])

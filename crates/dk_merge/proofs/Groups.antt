-- State files merged in groups.
use Rattle.std.proofs.Common.{◌≤◌, ◌+◌, ◌^◌, ℕ, [], length, ap, arith, length-append}
use Rattle.std.specs.Prelude.{slice_index_or}
use Rattle.dk_hierarchy.specs.Samples.{OwnSamples}
use Rattle.dk_merging.proofs.EnginesOfBoth.{own_at_both}
use Rattle.dk_merging.specs.Laws.{Alone, Together, own_by}
use Rattle.dk_merging.specs.Merging.{CanBeMerged, own_of_both}
use Rattle.dk_merge.specs.Laws.{GroupsCanBeMerged}
use Rattle.dk_merge.proofs.Histories.{saved_both}

few_in_both : (own others : OwnSamples) (p : ℕ) → length (slice_index_or (own_of_both own others) p []) ≤ 2 ^ 40 → length (slice_index_or own p []) + length (slice_index_or others p []) ≤ 2 ^ 40
few_in_both own others p few = omega (arith, few, ap length (own_at_both own others p), length-append (slice_index_or own p []) (slice_index_or others p []))

pub groups_can_be_merged : GroupsCanBeMerged
groups_can_be_merged g ps implicit (Alone own file) (can, is) few = (is, can)
groups_can_be_merged g ps implicit (Together first second file) (one, other, makes) few =
    let together : (p : ℕ) → length (slice_index_or (own_by first) p []) + length (slice_index_or (own_by second) p []) ≤ 2 ^ 40 =
    λ p. few_in_both (own_by first) (own_by second) p (few p) in
    let here = groups_can_be_merged g ps implicit first one (λ p. omega (arith, together p)) in
    let there = groups_can_be_merged g ps implicit second other (λ p. omega (arith, together p)) in
    let both : CanBeMerged g ps (own_by first) (own_by second) = record { first = here.1; second = there.1; few = together } in
    ((here.0, there.0, both, makes), saved_both g ps (own_by first) (own_by second) here.1 there.1 together)

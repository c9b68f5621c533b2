-- State files merged in any order and in any groups.
use Rattle.std.specs.Prelude.{◌≡◌, ◌++◌, [], ℕ, List, slice_index_or}
use Rattle.std.specs.List.Sorted.{IsPermutation}
use Rattle.std.proofs.Common.{◌∙◌, ap, append_assoc, subst, sym}
use Rattle.std.proofs.lemmas.List.Sorted.{IsPermutation-append_comm, IsPermutation-refl}
use Rattle.dk_base.specs.declared.values.Value.{Value}
use Rattle.dk_hierarchy.specs.Samples.{OwnSamples}
use Rattle.dk_state.proofs.SameTexts.{order_of_samples}
use Rattle.dk_merging.specs.Laws.{Alone, EitherGroupingIsSame, EitherOrderIsSame, MergesAreStateFiles, OrderOfMergesDoesNotMatter, Together, own_by}
use Rattle.dk_merging.specs.Merging.{own_of_both}
use Rattle.dk_merging.proofs.EnginesOfBoth.{own_at_both}

pub merges_are_state_files : MergesAreStateFiles
merges_are_state_files g ps implicit (Alone own file) are = sym are
merges_are_state_files g ps implicit (Together first second file) are =
    are.3 g ps implicit (own_by first) (own_by second) are.2
    (sym (merges_are_state_files g ps implicit first are.0)) (sym (merges_are_state_files g ps implicit second are.1))

pub order_of_merges : OrderOfMergesDoesNotMatter
order_of_merges g ps implicit merges others are also same =
    merges_are_state_files g ps implicit merges are
    ∙ order_of_samples g ps implicit (own_by merges) (own_by others) same
    ∙ sym (merges_are_state_files g ps implicit others also)

-- ---- two and three
-- own samples that are the same at each point, in any order
moved : (own others : OwnSamples) (p : ℕ) (these those : List (List Value)) → slice_index_or own p [] ≡ these → slice_index_or others p [] ≡ those → IsPermutation these those
    → IsPermutation (slice_index_or own p []) (slice_index_or others p [])
moved own others p these those is also same =
    subst (λ l. IsPermutation l (slice_index_or others p [])) (sym is) (subst (IsPermutation these) (sym also) same)

pub either_order : EitherOrderIsSame
either_order g ps implicit own others =
    order_of_samples g ps implicit (own_of_both own others) (own_of_both others own) (λ p.
    let one = slice_index_or own p [] in
    let other = slice_index_or others p [] in
    moved (own_of_both own others) (own_of_both others own) p (one ++ other) (other ++ one) (own_at_both own others p) (own_at_both others own p) (IsPermutation-append_comm one other))

pub either_grouping : EitherGroupingIsSame
either_grouping g ps implicit own others more =
    let left = own_of_both (own_of_both own others) more in
    let right = own_of_both own (own_of_both others more) in
    order_of_samples g ps implicit left right (λ p.
    let one = slice_index_or own p [] in
    let other = slice_index_or others p [] in
    let last = slice_index_or more p [] in
    let first : slice_index_or left p [] ≡ (one ++ other) ++ last = own_at_both (own_of_both own others) more p ∙ ap (λ l. l ++ last) (own_at_both own others p) in
    let second : slice_index_or right p [] ≡ one ++ (other ++ last) = own_at_both own (own_of_both others more) p ∙ ap (λ l. one ++ l) (own_at_both others more p) in
    moved left right p ((one ++ other) ++ last) (one ++ (other ++ last)) first second
    (subst (IsPermutation ((one ++ other) ++ last)) (append_assoc one other last) (IsPermutation-refl ((one ++ other) ++ last))))

-- The order of patterns: total, and equal patterns alone are alike in it.
use Rattle.std.specs.Prelude.{◌≡◌, ◌<◌, ◌+◌, ℕ, Bool, true, false, List, [], ◌∷◌, length, map, refl, sum_by}
use Rattle.std.specs.Cmp.{IsTotalOrder, bool_cmp_total, nat_cmp_total, on_total, then_total}
use Rattle.std.specs.Cmp.Lexicographic.{lists_total, slice_cmp}
use Rattle.std.specs.Global.{Vec}
use Rattle.std.specs.List.Sorted.{IsPermutation, IsSorted, IsSortedBy}
use Rattle.std.specs.Ordering.{bool_cmp, is_eq, is_lt, nat_cmp, ordering_then}
use Rattle.std.specs.declared.cmp.Ordering.{Ordering}
use Rattle.std.specs.declared.cmp.Ordering.TheVariants.{Less, Equal, Greater}
use Rattle.std.proofs.Common.{◌∙◌, ap, arith, get_or, sym}
use Rattle.std.proofs.lemmas.Bool.{true≢false}
use Rattle.std.proofs.lemmas.Cmp.{ranked}
use Rattle.std.proofs.lemmas.List.{get_or-map, length-map}
use Rattle.std.proofs.lemmas.List.Sorted.{IsPermutation-map}
use Rattle.std.proofs.lemmas.List.Sums.{sum_by-cons}
use Rattle.dk_base.specs.declared.kinds.VarId.{VarId}
use Rattle.dk_snapshot.specs.Patterns.{pattern_cmp, pattern_of, patterns_of, seen}
use Rattle.dk_presence.specs.declared.held.Held.{Held}
use Rattle.dk_snapshot.specs.Sorting.{ascending}
use Rattle.dk_snapshot.specs.declared.pattern.Pattern.{Pattern}
use Rattle.dk_snapshot.proofs.Sorted.{same_ascending, sorted_is_ascending}

pub total : IsTotalOrder pattern_cmp
total = then_total (on_total (λ (p : Pattern). p.present) (lists_total bool_cmp_total)) (on_total (λ (p : Pattern). p.count) nat_cmp_total)

first_equal : (r s : Ordering) → ordering_then r s ≡ Equal → r ≡ Equal
first_equal Less s e = absurd (true≢false (sym (ap is_eq e)))
first_equal Equal s e = refl
first_equal Greater s e = absurd (true≢false (sym (ap is_eq e)))

second_equal : (r s : Ordering) → ordering_then r s ≡ Equal → s ≡ Equal
second_equal Less s e = absurd (true≢false (sym (ap is_eq e)))
second_equal Equal s e = e
second_equal Greater s e = absurd (true≢false (sym (ap is_eq e)))

same_truth : (a b : Bool) → bool_cmp a b ≡ Equal → a ≡ b
same_truth false false e = refl
same_truth false true e = absurd (true≢false (sym (ap is_eq e)))
same_truth true false e = absurd (true≢false (sym (ap is_eq e)))
same_truth true true e = refl

pub same_truths : (xs ys : List Bool) → slice_cmp bool_cmp xs ys ≡ Equal → xs ≡ ys
same_truths [] [] e = refl
same_truths [] (y ∷ ys) e = absurd (true≢false (sym (ap is_eq e)))
same_truths (x ∷ xs) [] e = absurd (true≢false (sym (ap is_eq e)))
same_truths (x ∷ xs) (y ∷ ys) e =
    ap (λ z. z ∷ xs) (same_truth x y (first_equal (bool_cmp x y) (slice_cmp bool_cmp xs ys) e))
    ∙ ap (λ zs. y ∷ zs) (same_truths xs ys (second_equal (bool_cmp x y) (slice_cmp bool_cmp xs ys) e))

pub alike_are_one : (a b : Pattern) → pattern_cmp a b ≡ Equal → a ≡ b
alike_are_one a b e =
    let truths : a.present ≡ b.present = same_truths a.present b.present (first_equal (slice_cmp bool_cmp a.present b.present) (nat_cmp a.count b.count) e) in
    let counts : a.count ≡ b.count = ranked a.count b.count Equal (sym (second_equal (slice_cmp bool_cmp a.present b.present) (nat_cmp a.count b.count) e)) in
    λ i. record { count = counts i; present = truths i }

-- a list that is sorted by what its items are seen as
sorted_map : {X Y : Type 0} (f : X → Y) (lt : Y → Y → Bool) (xs : List X) → IsSortedBy (λ x y. lt (f x) (f y)) xs → IsSortedBy lt (map f xs)
sorted_map f lt [] up k d l m = absurd (omega (arith, m))
sorted_map f lt (x ∷ xs) up k d l m =
    let inside : k + 1 < length (x ∷ xs) = omega (arith, m, length-map xs f) in
    ap (λ z. lt z (get_or (map f (x ∷ xs)) k d)) (get_or-map f (x ∷ xs) (k + 1) x d inside)
    ∙ (ap (lt (f (get_or (x ∷ xs) (k + 1) x))) (get_or-map f (x ∷ xs) k x d (omega (arith, inside))) ∙ up k x l inside)

pub sorted_patterns : (all sorted : List (Vec Bool × ℕ)) → IsPermutation all sorted
    → IsSorted (λ x y. ordering_then (slice_cmp bool_cmp x.0.items y.0.items) (nat_cmp x.1 y.1)) sorted → map seen sorted ≡ ascending pattern_cmp (map seen all)
sorted_patterns all sorted moved up =
    sorted_is_ascending pattern_cmp total alike_are_one (map seen all) (map seen sorted) (IsPermutation-map seen all sorted moved)
    (sorted_map seen (λ a b. is_lt (pattern_cmp a b)) sorted up)

weighs_mapped : {X Y : Type 0} (f : Y → ℕ) (g : X → Y) (xs : List X) → sum_by f (map g xs) ≡ sum_by (λ x. f (g x)) xs
weighs_mapped f g [] = refl
weighs_mapped f g (x ∷ xs) = sum_by-cons f (g x) (map g xs) ∙ (ap (λ n. f (g x) + n) (weighs_mapped f g xs) ∙ sym (sum_by-cons (λ y. f (g y)) x xs))

-- the same patterns, each as often, are one list in order
pub same_patterns : (leaders : List VarId) (held others : List Held) → ((f : Held → ℕ) → sum_by f held ≡ sum_by f others) → patterns_of leaders held ≡ patterns_of leaders others
same_patterns leaders held others alike =
    same_ascending pattern_cmp total alike_are_one (map (pattern_of leaders) held) (map (pattern_of leaders) others)
    (λ f. weighs_mapped f (pattern_of leaders) held ∙ (alike (λ h. f (pattern_of leaders h)) ∙ sym (weighs_mapped f (pattern_of leaders) others)))

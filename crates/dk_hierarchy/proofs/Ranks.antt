-- Levels as a map has them: a level is found at its rank.
use Rattle.std.specs.Prelude.{◌≡◌, ◌==◌, ◌<◌, ℕ, All, Bool, true, false, IfSome, List, [], ◌∷◌, Option, None, Some, nat_lt, unwrap_or, cond, refl, if◌then◌else◌}
use Rattle.std.specs.BTreeMap.{insert_entry, is_at}
use Rattle.std.specs.Cmp.{nat_cmp_total}
use Rattle.std.specs.List.{AllByRecursion}
use Rattle.std.specs.List.Sorted.{IsStrictlySortedBy}
use Rattle.std.specs.Map.{keys_of, lookup, remove_entry}
use Rattle.std.specs.Ordering.{is_eq, match_ordering, nat_cmp}
use Rattle.std.specs.declared.cmp.Ordering.TheVariants.{Less, Equal, Greater}
use Rattle.std.proofs.Common.{◌∙◌, ap, subst, sym}
use Rattle.std.proofs.lemmas.Bool.{eqb-true}
use Rattle.std.proofs.lemmas.List.Elements.{All-cons, All-head, All-nil, All-tail}
use Rattle.std.proofs.lemmas.Map.{NonePasses, lookup-none}
use Rattle.std.proofs.lemmas.Map.Entries.{none_below_head}
use Rattle.std.proofs.lemmas.Map.Keys.{sorted_head, sorted_tail}
use Rattle.dk_graph.proofs.Steps.{lt_true}
use Rattle.dk_hierarchy.specs.Descent.{AreBelow, ways_at, with_way_at}
use Rattle.dk_hierarchy.specs.Ways.{with_way}
use Rattle.dk_hierarchy.specs.declared.way.Way.{Way}

remove-none : (test : ℕ → Bool) (levels : List (ℕ × List Way)) → NonePasses test levels → remove_entry test levels ≡ levels
remove-none test [] none = refl
remove-none test (level ∷ levels) none =
    ap (λ b. cond b levels (level ∷ remove_entry test levels)) none.0 ∙ ap (λ ls. level ∷ ls) (remove-none test levels none.1)

-- a rank below all others goes first
insert-first : (levels : List (ℕ × List Way)) (rank : ℕ) (ways : List Way) → AllByRecursion (λ r. nat_cmp rank r ≡ Less) (keys_of levels)
    → insert_entry nat_cmp levels rank ways ≡ (rank, ways) ∷ levels
insert-first [] rank ways first = refl
insert-first (level ∷ levels) rank ways first =
    ap (λ o. match_ordering o ((rank, ways) ∷ level ∷ levels) ((level.0, ways) ∷ levels) (level ∷ insert_entry nat_cmp levels rank ways)) first.0

-- the ways of a rank are taken out, and put back with one more
pub added_at : (levels : List (ℕ × List Way)) (rank : ℕ) (way : Way) → IsStrictlySortedBy nat_cmp (keys_of levels)
    → insert_entry nat_cmp (remove_entry (is_at (nat_cmp rank)) levels) rank (with_way (ways_at levels rank) way) ≡ with_way_at levels rank way
added_at [] rank way sorted = refl
added_at (level ∷ levels) rank way sorted =
    go (nat_lt rank level.0) refl (rank == level.0) refl (added_at levels rank way (sorted_tail nat_cmp level.0 (keys_of levels) sorted))
  where
    test : ℕ → Bool
    test = is_at (nat_cmp rank)

    -- how the rank compares with the first
    order : (less same : Bool) → nat_lt rank level.0 ≡ less → rank == level.0 ≡ same → nat_cmp rank level.0 ≡ cond less Less (cond same Equal Greater)
    order less same is eq = ap (λ b. cond b Less (cond (rank == level.0) Equal Greater)) is ∙ ap (λ b. cond less Less (cond b Equal Greater)) eq

    put : List (ℕ × List Way) → List Way → List (ℕ × List Way)
    put others ways = insert_entry nat_cmp others rank (with_way ways way)

    found : Bool → List Way
    found b = unwrap_or (cond b (Some level.1) (lookup test levels)) []

    left : Bool → List (ℕ × List Way)
    left b = cond b levels (level ∷ remove_entry test levels)

    go : (less : Bool) → nat_lt rank level.0 ≡ less → (same : Bool) → rank == level.0 ≡ same
        → put (remove_entry test levels) (ways_at levels rank) ≡ with_way_at levels rank way
        → put (left (test level.0)) (found (test level.0))
        ≡ (if less then (rank, way ∷ []) ∷ level ∷ levels else if same then (rank, with_way level.1 way) ∷ levels else level ∷ with_way_at levels rank way)
    go true is same eq rest =
        let less : nat_cmp rank level.0 ≡ Less = order true same is eq in
        let none : NonePasses test (level ∷ levels) = none_below_head nat_cmp_total rank level levels sorted less in
        ap (λ ls. put ls (ways_at (level ∷ levels) rank)) (remove-none test (level ∷ levels) none)
        ∙ ap (λ o. put (level ∷ levels) (unwrap_or o [])) (lookup-none test (level ∷ levels) none)
        ∙ ap (λ o. match_ordering o ((rank, way ∷ []) ∷ level ∷ levels) ((level.0, way ∷ []) ∷ levels) (level ∷ insert_entry nat_cmp levels rank (way ∷ []))) less
    go false is true eq rest =
        let equal : nat_cmp rank level.0 ≡ Equal = order false true is eq in
        let first : AllByRecursion (λ r. nat_cmp rank r ≡ Less) (keys_of levels) =
        subst (λ k. AllByRecursion (λ r. nat_cmp k r ≡ Less) (keys_of levels)) (sym (eqb-true rank level.0 eq)) (sorted_head nat_cmp level.0 (keys_of levels) sorted) in
        ap (λ b. put (left b) (found b)) (ap is_eq equal) ∙ insert-first levels rank (with_way level.1 way) first
    go false is false eq rest =
        let greater : nat_cmp rank level.0 ≡ Greater = order false false is eq in
        ap (λ b. put (left b) (found b)) (ap is_eq greater)
        ∙ ap (λ o. match_ordering o ((rank, with_way (ways_at levels rank) way) ∷ level ∷ remove_entry test levels) ((level.0, with_way (ways_at levels rank) way) ∷ remove_entry test levels)
        (level ∷ put (remove_entry test levels) (ways_at levels rank))) greater
        ∙ ap (λ ls. level ∷ ls) rest

-- the last level was taken out: the others stand below it
less-than : (q n : ℕ) → nat_cmp q n ≡ Less → q < n
less-than q n is = by (nat_lt q n) refl (q == n) is
  where
    by : (less : Bool) → nat_lt q n ≡ less → (same : Bool) → cond less Less (cond same Equal Greater) ≡ Less → q < n
    by true at same h = lt_true q n at
    by false at true h = absurd (cc)
    by false at false h = absurd (cc)

below-keys : (n : ℕ) (levels : List (ℕ × List Way)) → All (λ q. nat_cmp q n ≡ Less) (keys_of levels) → AreBelow n levels
below-keys n [] all = All-nil (λ (l : ℕ × List Way). l.0 < n)
below-keys n (level ∷ levels) all =
    All-cons (λ (l : ℕ × List Way). l.0 < n) level levels (less-than level.0 n (All-head (λ q. nat_cmp q n ≡ Less) level.0 (keys_of levels) all))
    (below-keys n levels (All-tail (λ q. nat_cmp q n ≡ Less) level.0 (keys_of levels) all))

pub popped-below : (o : Option (ℕ × List Way)) (levels : List (ℕ × List Way)) → IfSome o (λ p. All (λ q. nat_cmp q p.0 ≡ Less) (keys_of levels)) → IfSome o (λ p. AreBelow p.0 levels)
popped-below None levels all = all
popped-below (Some p) levels all = below-keys p.0 levels all

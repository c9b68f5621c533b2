-- Ways with one more, and ways by the ranks of their lower points.
use Rattle.std.specs.Prelude.{◌≡◌, ◌<◌, ◌≤◌, ◌+◌, ◌==◌, ◌++◌, ℕ, Bool, true, false, All, List, [], ◌∷◌, flat_map, fold, map, max, nat_lt, refl, slice_index, Option, Some, None, if◌then◌else◌}
use Rattle.std.specs.Bool.{Decides}
use Rattle.std.specs.Cmp.Lexicographic.{pointwise}
use Rattle.std.proofs.Common.{◌∙◌, ap, arith, subst, sym}
use Rattle.std.proofs.lemmas.Bool.{and_parts, eq-eqb, eqb-true}
use Rattle.std.proofs.lemmas.List.{append-nil, append_assoc}
use Rattle.std.proofs.lemmas.List.Concat.{flat_map-append}
use Rattle.std.proofs.lemmas.List.Elements.{All-append, All-cons, All-head, All-nil, All-tail}
use Rattle.std.proofs.lemmas.Slice.Eq.{slice_eq-Decides}
use Rattle.dk_base.specs.Shapes.{var}
use Rattle.dk_base.specs.declared.kinds.VarId.{VarId}
use Rattle.dk_graph.proofs.Places.{some-injective}
use Rattle.dk_graph.specs.declared.nodes.Edge.{Edge}
use Rattle.dk_presence.specs.Patterns.{capped}
use Rattle.dk_hierarchy.proofs.Telling.{Samples, repeated_capped, repeated_more, same_append, same_as, same_behind, same_inner, same_refl, same_swap, same_trans}
use Rattle.dk_hierarchy.specs.Descent.{AreBelow, AreLevels, ways_in, with_way_at}
use Rattle.dk_hierarchy.specs.Samples.{mapped_sample}
use Rattle.dk_hierarchy.specs.Ways.{SamplesTellTheSame, repeated_samples, same_partner, same_way, samples_through, samples_through_all, with_paths, with_way}
use Rattle.dk_hierarchy.specs.declared.way.Way.{Way}

-- ---- one way more
partner_same : (a b : Option VarId) → Decides (same_partner a b) (a ≡ b)
partner_same None None = (λ h. refl, λ e. refl)
partner_same None (Some w) = (λ h. absurd (cc), λ e. absurd (cc))
partner_same (Some v) None = (λ h. absurd (cc), λ e. absurd (cc))
partner_same (Some v) (Some w) = (λ h. ap (λ n. Some (var n)) (eqb-true v.0 w.0 h), λ e. eq-eqb v.0 w.0 (ap (λ (u : VarId). u.0) (some-injective e)))

module _ (samples : ℕ → Samples) where
  -- more paths of a way bring as much as both
  paths_added : (other way : Way) → same_way other way ≡ true → SamplesTellTheSame (samples_through samples (with_paths other way.paths)) (samples_through samples other ++ samples_through samples way)
  paths_added other way same =
      let parts = and_parts (other.point.0 == way.point.0) (pointwise same_partner other.partners way.partners) same in
      let point = eqb-true other.point.0 way.point.0 parts.0 in
      let partners = (slice_eq-Decides partner_same other.partners way.partners (pointwise same_partner other.partners way.partners) refl).0 parts.1 in
      let once : Samples = map (mapped_sample other.partners) (samples other.point.0) in
      let both : once ≡ map (mapped_sample way.partners) (samples way.point.0) = ap (λ ps. map (mapped_sample ps) (samples other.point.0)) partners ∙ ap (λ p. map (mapped_sample way.partners) (samples p)) point in
      same_trans (repeated_samples (capped (other.paths + way.paths)) once) (repeated_samples (other.paths + way.paths) once) (samples_through samples other ++ samples_through samples way)
      (repeated_capped (other.paths + way.paths) once)
      (same_as (repeated_samples (other.paths + way.paths) once) (samples_through samples other ++ samples_through samples way)
      (repeated_more other.paths way.paths once ∙ ap (λ xs. repeated_samples other.paths once ++ repeated_samples way.paths xs) both))

  pub way_added : (ways : List Way) (way : Way) → SamplesTellTheSame (samples_through_all samples (with_way ways way)) (samples_through_all samples ways ++ samples_through samples way)
  way_added [] way = same_as (samples_through samples way ++ []) (samples_through samples way) (append-nil (samples_through samples way))
  way_added (other ∷ ways) way = go (same_way other way) refl (way_added ways way)
    where
      go : (b : Bool) → same_way other way ≡ b → SamplesTellTheSame (samples_through_all samples (with_way ways way)) (samples_through_all samples ways ++ samples_through samples way)
          → SamplesTellTheSame (samples_through_all samples (if b then with_paths other way.paths ∷ ways else other ∷ with_way ways way)) ((samples_through samples other ++ samples_through_all samples ways) ++ samples_through samples way)
      go true same others =
          same_trans (samples_through samples (with_paths other way.paths) ++ samples_through_all samples ways) ((samples_through samples other ++ samples_through samples way) ++ samples_through_all samples ways) ((samples_through samples other ++ samples_through_all samples ways) ++ samples_through samples way)
          (same_append (samples_through samples (with_paths other way.paths)) (samples_through samples other ++ samples_through samples way) (samples_through_all samples ways) (samples_through_all samples ways) (paths_added other way same) (same_refl (samples_through_all samples ways)))
          (same_inner (samples_through samples other) (samples_through samples way) (samples_through_all samples ways))
      go false same others =
          same_trans (samples_through samples other ++ samples_through_all samples (with_way ways way)) (samples_through samples other ++ (samples_through_all samples ways ++ samples_through samples way)) ((samples_through samples other ++ samples_through_all samples ways) ++ samples_through samples way)
          (same_behind (samples_through samples other) (samples_through_all samples (with_way ways way)) (samples_through_all samples ways ++ samples_through samples way) others)
          (same_as (samples_through samples other ++ (samples_through_all samples ways ++ samples_through samples way)) ((samples_through samples other ++ samples_through_all samples ways) ++ samples_through samples way) (sym (append_assoc (samples_through samples other) (samples_through_all samples ways) (samples_through samples way))))

  -- ---- levels
  -- what ways bring, that stand in two lists
  pub through_append : (first second : List Way) → samples_through_all samples (first ++ second) ≡ samples_through_all samples first ++ samples_through_all samples second
  through_append first second = flat_map-append (samples_through samples) first second

  pub way_at_added : (levels : List (ℕ × List Way)) (rank : ℕ) (way : Way)
      → SamplesTellTheSame (samples_through_all samples (ways_in (with_way_at levels rank way))) (samples_through_all samples (ways_in levels) ++ samples_through samples way)
  way_at_added [] rank way = same_as (samples_through samples way ++ []) (samples_through samples way) (append-nil (samples_through samples way))
  way_at_added (level ∷ levels) rank way = go (nat_lt rank level.0) (rank == level.0) (way_at_added levels rank way)
    where
      one : Samples
      one = samples_through samples way

      here : Samples
      here = samples_through_all samples level.1

      rest : Samples
      rest = samples_through_all samples (ways_in levels)

      both : samples_through_all samples (level.1 ++ ways_in levels) ≡ here ++ rest
      both = through_append level.1 (ways_in levels)

      behind : (now : List Way) → samples_through_all samples (ways_in ((rank, now) ∷ levels)) ≡ samples_through_all samples now ++ rest
      behind now = through_append now (ways_in levels)

      go : (less same : Bool) → SamplesTellTheSame (samples_through_all samples (ways_in (with_way_at levels rank way))) (rest ++ one)
          → SamplesTellTheSame
          (samples_through_all samples (ways_in (if less then (rank, way ∷ []) ∷ level ∷ levels else if same then (rank, with_way level.1 way) ∷ levels else level ∷ with_way_at levels rank way)))
          (samples_through_all samples (level.1 ++ ways_in levels) ++ one)
      go true same others = same_swap one (samples_through_all samples (level.1 ++ ways_in levels))
      go false true others =
          same_trans (samples_through_all samples (with_way level.1 way ++ ways_in levels)) ((here ++ one) ++ rest) (samples_through_all samples (level.1 ++ ways_in levels) ++ one)
          (same_trans (samples_through_all samples (with_way level.1 way ++ ways_in levels)) (samples_through_all samples (with_way level.1 way) ++ rest) ((here ++ one) ++ rest)
          (same_as (samples_through_all samples (with_way level.1 way ++ ways_in levels)) (samples_through_all samples (with_way level.1 way) ++ rest) (behind (with_way level.1 way)))
          (same_append (samples_through_all samples (with_way level.1 way)) (here ++ one) rest rest (way_added level.1 way) (same_refl rest)))
          (same_trans ((here ++ one) ++ rest) ((here ++ rest) ++ one) (samples_through_all samples (level.1 ++ ways_in levels) ++ one)
          (same_inner here one rest)
          (same_as ((here ++ rest) ++ one) (samples_through_all samples (level.1 ++ ways_in levels) ++ one) (ap (λ xs. xs ++ one) (sym both))))
      go false false others =
          let next = samples_through_all samples (ways_in (with_way_at levels rank way)) in
          same_trans (samples_through_all samples (level.1 ++ ways_in (with_way_at levels rank way))) (here ++ (rest ++ one)) (samples_through_all samples (level.1 ++ ways_in levels) ++ one)
          (same_trans (samples_through_all samples (level.1 ++ ways_in (with_way_at levels rank way))) (here ++ next) (here ++ (rest ++ one))
          (same_as (samples_through_all samples (level.1 ++ ways_in (with_way_at levels rank way))) (here ++ next) (through_append level.1 (ways_in (with_way_at levels rank way))))
          (same_behind here next (rest ++ one) others))
          (same_as (here ++ (rest ++ one)) (samples_through_all samples (level.1 ++ ways_in levels) ++ one) (sym (append_assoc here rest one) ∙ ap (λ xs. xs ++ one) (sym both)))

  -- one way more for each of some edges, where each adds what it brings
  pub each_added : {A : Type 0} (left : A → List Way) (add : A → Edge → A) (below : Edge → Way)
      → ((a : A) (e : Edge) → SamplesTellTheSame (samples_through_all samples (left (add a e))) (samples_through_all samples (left a) ++ samples_through samples (below e)))
      → (a : A) (es : List Edge)
      → SamplesTellTheSame (samples_through_all samples (left (fold add a es))) (samples_through_all samples (left a) ++ flat_map (λ e. samples_through samples (below e)) es)
  each_added left add below added a [] = same_as (samples_through_all samples (left a)) (samples_through_all samples (left a) ++ []) (sym (append-nil (samples_through_all samples (left a))))
  each_added left add below added a (e ∷ es) =
      let one = samples_through samples (below e) in
      let next = samples_through_all samples (left (add a e)) in
      let before = samples_through_all samples (left a) in
      let rest = flat_map (λ e. samples_through samples (below e)) es in
      same_trans (samples_through_all samples (left (fold add (add a e) es))) (next ++ rest) (before ++ (one ++ rest))
      (each_added left add below added (add a e) es)
      (same_trans (next ++ rest) ((before ++ one) ++ rest) (before ++ (one ++ rest))
      (same_append next (before ++ one) rest rest (added a e) (same_refl rest))
      (same_as ((before ++ one) ++ rest) (before ++ (one ++ rest)) (append_assoc before one rest)))

-- ---- what holds of each way
pub all_with_way : (P : Way → Type 0) → ((other : Way) (n : ℕ) → P other → P (with_paths other n)) → (ways : List Way) (way : Way) → All P ways → P way → All P (with_way ways way)
all_with_way P more [] way all is = All-cons P way [] is all
all_with_way P more (other ∷ ways) way all is = go (same_way other way) (all_with_way P more ways way (All-tail P other ways all) is)
  where
    go : (b : Bool) → All P (with_way ways way) → All P (if b then with_paths other way.paths ∷ ways else other ∷ with_way ways way)
    go true others = All-cons P (with_paths other way.paths) ways (more other way.paths (All-head P other ways all)) (All-tail P other ways all)
    go false others = All-cons P other (with_way ways way) (All-head P other ways all) others

-- ---- what holds of the ways of levels
all_front : {A : Type 0} (P : A → Type 0) (xs ys : List A) → All P (xs ++ ys) → All P xs
all_front P [] ys all = All-nil P
all_front P (x ∷ xs) ys all = All-cons P x xs (All-head P x (xs ++ ys) all) (all_front P xs ys (All-tail P x (xs ++ ys) all))

all_back : {A : Type 0} (P : A → Type 0) (xs ys : List A) → All P (xs ++ ys) → All P ys
all_back P [] ys all = all
all_back P (x ∷ xs) ys all = all_back P xs ys (All-tail P x (xs ++ ys) all)

pub all_parts : {A : Type 0} (P : A → Type 0) (xs ys : List A) → All P (xs ++ ys) → All P xs × All P ys
all_parts P xs ys all = (all_front P xs ys all, all_back P xs ys all)

module _ (P : Way → Type 0) (more : (other : Way) (n : ℕ) → P other → P (with_paths other n)) where
  pub all_with_way_at : (levels : List (ℕ × List Way)) (rank : ℕ) (way : Way) → All P (ways_in levels) → P way → All P (ways_in (with_way_at levels rank way))
  all_with_way_at [] rank way all is = All-cons P way [] is (All-nil P)
  all_with_way_at (level ∷ levels) rank way all is =
      let parts = all_parts P level.1 (ways_in levels) all in
      go (nat_lt rank level.0) (rank == level.0) parts.0 parts.1 (all_with_way_at levels rank way parts.1 is)
    where
      go : (less same : Bool) → All P level.1 → All P (ways_in levels) → All P (ways_in (with_way_at levels rank way))
          → All P (ways_in (if less then (rank, way ∷ []) ∷ level ∷ levels else if same then (rank, with_way level.1 way) ∷ levels else level ∷ with_way_at levels rank way))
      go true same here rest next = All-cons P way (level.1 ++ ways_in levels) is (All-append P level.1 (ways_in levels) here rest)
      go false true here rest next = All-append P (with_way level.1 way) (ways_in levels) (all_with_way P more level.1 way here is) rest
      go false false here rest next = All-append P level.1 (ways_in (with_way_at levels rank way)) here next

-- what holds after one way more for each of some edges
pub each_holds : {A : Type 0} (Q : A → Type 0) (R : Edge → Type 0) (add : A → Edge → A) → ((a : A) (e : Edge) → Q a → R e → Q (add a e))
    → (a : A) (es : List Edge) → Q a → All R es → Q (fold add a es)
each_holds Q R add next a [] holds all = holds
each_holds Q R add next a (e ∷ es) holds all = each_holds Q R add next (add a e) es (next a e holds (All-head R e es all)) (All-tail R e es all)

-- ---- ranks of levels
-- the ways of a level lead to points of its rank
abbrev pub IsLevel : List ℕ → ℕ × List Way → Type 0
IsLevel ranks level = All (λ (way : Way). slice_index ranks way.point.0 ≡ level.0) level.1

pub levels_with_way : (ranks : List ℕ) (levels : List (ℕ × List Way)) (rank : ℕ) (way : Way) → AreLevels ranks levels → slice_index ranks way.point.0 ≡ rank
    → AreLevels ranks (with_way_at levels rank way)
levels_with_way ranks [] rank way are is = All-cons (IsLevel ranks) (rank, way ∷ []) [] (All-cons (λ (w : Way). slice_index ranks w.point.0 ≡ rank) way [] is (All-nil (λ (w : Way). slice_index ranks w.point.0 ≡ rank))) are
levels_with_way ranks (level ∷ levels) rank way are is =
    go (nat_lt rank level.0) (rank == level.0) refl (levels_with_way ranks levels rank way (All-tail (IsLevel ranks) level levels are) is)
  where
    here : All (λ (w : Way). slice_index ranks w.point.0 ≡ level.0) level.1
    here = All-head (IsLevel ranks) level levels are

    rest : AreLevels ranks levels
    rest = All-tail (IsLevel ranks) level levels are

    more : (other : Way) (n : ℕ) → slice_index ranks other.point.0 ≡ rank → slice_index ranks (with_paths other n).point.0 ≡ rank
    more other n at = at

    go : (less same : Bool) → rank == level.0 ≡ same → AreLevels ranks (with_way_at levels rank way)
        → AreLevels ranks (if less then (rank, way ∷ []) ∷ level ∷ levels else if same then (rank, with_way level.1 way) ∷ levels else level ∷ with_way_at levels rank way)
    go true same eq next =
        All-cons (IsLevel ranks) (rank, way ∷ []) (level ∷ levels)
        (All-cons (λ (w : Way). slice_index ranks w.point.0 ≡ rank) way [] is (All-nil (λ (w : Way). slice_index ranks w.point.0 ≡ rank))) are
    go false true eq next =
        All-cons (IsLevel ranks) (rank, with_way level.1 way) levels
        (all_with_way (λ (w : Way). slice_index ranks w.point.0 ≡ rank) more level.1 way
        (subst (λ n. All (λ (w : Way). slice_index ranks w.point.0 ≡ n) level.1) (sym (eqb-true rank level.0 eq)) here) is)
        rest
    go false false eq next = All-cons (IsLevel ranks) level (with_way_at levels rank way) here next

pub below_with_way : (bound : ℕ) (levels : List (ℕ × List Way)) (rank : ℕ) (way : Way) → AreBelow bound levels → rank < bound → AreBelow bound (with_way_at levels rank way)
below_with_way bound [] rank way are is = All-cons (λ (l : ℕ × List Way). l.0 < bound) (rank, way ∷ []) [] is are
below_with_way bound (level ∷ levels) rank way are is =
    go (nat_lt rank level.0) (rank == level.0) (below_with_way bound levels rank way (All-tail (λ (l : ℕ × List Way). l.0 < bound) level levels are) is)
  where
    go : (less same : Bool) → AreBelow bound (with_way_at levels rank way)
        → AreBelow bound (if less then (rank, way ∷ []) ∷ level ∷ levels else if same then (rank, with_way level.1 way) ∷ levels else level ∷ with_way_at levels rank way)
    go true same next = All-cons (λ (l : ℕ × List Way). l.0 < bound) (rank, way ∷ []) (level ∷ levels) is are
    go false true next = All-cons (λ (l : ℕ × List Way). l.0 < bound) (rank, with_way level.1 way) levels is (All-tail (λ (l : ℕ × List Way). l.0 < bound) level levels are)
    go false false next = All-cons (λ (l : ℕ × List Way). l.0 < bound) level (with_way_at levels rank way) (All-head (λ (l : ℕ × List Way). l.0 < bound) level levels are) next

-- a number above the ranks of all levels
abbrev pub above_all : List (ℕ × List Way) → ℕ
above_all [] = 0
above_all (level ∷ levels) = max (level.0 + 1) (above_all levels)

pub above_last : (levels : List (ℕ × List Way)) (level : ℕ × List Way) → level.0 < above_all (levels ++ level ∷ [])
above_last [] level = omega arith
above_last (other ∷ levels) level = let rest = above_last levels level in omega (arith, rest)

pub above_below : (bound : ℕ) (levels : List (ℕ × List Way)) → AreBelow bound levels → above_all levels ≤ bound
above_below bound [] are = omega arith
above_below bound (level ∷ levels) are =
    let rest = above_below bound levels (All-tail (λ (l : ℕ × List Way). l.0 < bound) level levels are) in
    let first = All-head (λ (l : ℕ × List Way). l.0 < bound) level levels are in
    omega (arith, rest, first)

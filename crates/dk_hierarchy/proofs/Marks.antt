-- Marks of points that go up along edges, and the points that have samples.
use Rattle.std.specs.Prelude.{◌≡◌, ◌<◌, ◌≤◌, ◌+◌, ◌==◌, ◌++◌, ◌⊎◌, ℕ, zero, suc, Bool, true, false, not, Contains, List, [], ◌∷◌, if◌then◌else◌, flat_map, length, map, nat_lt, slice_get, slice_index_or, slice_set, Some, refl}
use Rattle.std.specs.List.{range_with_len}
use Rattle.std.proofs.Common.{◌∙◌, ◌≢◌, ap, arith, inl, inr, subst, sum_by, sym, true≢false}
use Rattle.std.proofs.lemmas.List.{get_or-set_same, get_or-set_other, length-append, length-map, length-set}
use Rattle.std.proofs.lemmas.List.Elements.{All-contains, Contains-append_left, Contains-push, Contains-push_cases}
use Rattle.std.proofs.lemmas.List.FromFn.{fill_by_all, map-range_with_len_more}
use Rattle.std.proofs.lemmas.List.Sums.{sum_by-set}
use Rattle.dk_base.specs.Pieces.{is_empty}
use Rattle.dk_base.specs.declared.values.Value.{Value}
use Rattle.dk_engine.specs.Reading.Levels.{Whole}
use Rattle.dk_graph.proofs.Heights.{eqb_same, eqb_true}
use Rattle.dk_graph.proofs.Links.{edge-below}
use Rattle.dk_graph.proofs.Members.{Has, contained-has, filter-has, has-contained, has-filter}
use Rattle.dk_graph.proofs.Places.{some-injective}
use Rattle.dk_graph.proofs.Steps.{eq_or_not}
use Rattle.dk_graph.specs.Graphs.{depth_of, edges, edges_from, edges_into, has_cycle}
use Rattle.dk_graph.specs.Raising.{ParentsBelow}
use Rattle.dk_graph.specs.declared.nodes.Edge.{Edge}
use Rattle.dk_points.proofs.Nodes.{length-nodes}
use Rattle.dk_points.specs.Ends.{AreFrom}
use Rattle.dk_points.specs.Links.{nodes}
use Rattle.dk_points.specs.Table.{Point}
use Rattle.dk_presence.specs.Patterns.{capped}
use Rattle.dk_hierarchy.proofs.Samples.{own_and_childrens}
use Rattle.dk_hierarchy.specs.Having.{Marking, has_samples, have_samples, keeps_some, marked, marked_all}
use Rattle.dk_hierarchy.specs.Samples.{OwnSamples, mapped_sample, own_samples_of, partners_of, samples_of, samples_within}
use Rattle.dk_hierarchy.specs.Standing.{AreEnginesOf, EnginesStandFor}

-- whether a point is marked
abbrev pub mark : Marking → ℕ → Bool
mark s q = slice_index_or s.marks q false

abbrev with_mark : Marking → ℕ → Marking
with_mark s p = record { marks = slice_set s.marks p true; waiting = s.waiting ++ p ∷ [] }

abbrev lacks : Bool → ℕ
lacks b = if b then 0 else 1

abbrev unmarked : List Bool → ℕ
unmarked marks = sum_by lacks marks

-- a number that falls with each point that waits no longer
abbrev pub to_do : Marking → ℕ
to_do s = unmarked s.marks + length s.waiting

-- ---- one mark more
-- what came of marking some points: those that are newly marked are among these, and wait
pub record Went (new : ℕ → Type 0) (s t : Marking) : Type 0 where
  pub stays : (q : ℕ) → mark s q ≡ true → mark t q ≡ true
  pub waits : (q : ℕ) → Contains s.waiting q → Contains t.waiting q
  pub from : (q : ℕ) → mark t q ≡ true → (mark s q ≡ true) ⊎ (new q × Contains t.waiting q)
  pub below : (n : ℕ) → ((q : ℕ) → new q → q < n) → ((q : ℕ) → Contains s.waiting q → q < n) → (q : ℕ) → Contains t.waiting q → q < n
  pub long : length t.marks ≡ length s.marks
  pub rest : to_do t ≡ to_do s

went-not : (new : ℕ → Type 0) (s : Marking) → Went new s s
went-not new s = record {
  stays = λ q is. is;
  waits = λ q there. there;
  from = λ q is. inl is;
  below = λ n new old q there. old q there;
  long = refl;
  rest = refl;
}

went-on : (new : ℕ → Type 0) (s t u : Marking) → Went new s t → Went new t u → Went new s u
went-on new s t u first second = record {
  stays = λ q is. second.stays q (first.stays q is);
  waits = λ q there. second.waits q (first.waits q there);
  from = λ q is. elim (second.from q is) [
    | inl before ↦ elim (first.from q before) [
      | inl was ↦ inl was
      | inr fresh ↦ inr (fresh.0, second.waits q fresh.1)
    ]
    | inr fresh ↦ inr fresh
  ];
  below = λ n new old. second.below n new (first.below n new old);
  long = second.long ∙ first.long;
  rest = second.rest ∙ first.rest;
}

went-more : (new more : ℕ → Type 0) → ((q : ℕ) → new q → more q) → (s t : Marking) → Went new s t → Went more s t
went-more new more wider s t went = record {
  stays = went.stays;
  waits = went.waits;
  from = λ q is. elim (went.from q is) [
    | inl was ↦ inl was
    | inr fresh ↦ inr (wider q fresh.0, fresh.1)
  ];
  below = λ n each old. went.below n (λ q is. each q (wider q is)) old;
  long = went.long;
  rest = went.rest;
}

module _ (s : Marking) (p : ℕ) (within : p < length s.marks) where
  mark-at : mark (with_mark s p) p ≡ true
  mark-at = get_or-set_same s.marks p true false within

  mark-other : (q : ℕ) → q ≢ p → mark (with_mark s p) q ≡ mark s q
  mark-other q other = get_or-set_other s.marks p q true false other

  went-one : mark s p ≡ false → Went (λ q. q ≡ p) s (with_mark s p)
  went-one none = record {
    stays = λ q is. elim (eq_or_not q p) [
      | inl same ↦ subst (λ r. mark (with_mark s p) r ≡ true) (sym same) mark-at
      | inr other ↦ mark-other q other ∙ is
    ];
    waits = λ q there. Contains-append_left s.waiting (p ∷ []) q there;
    from = λ q is. elim (eq_or_not q p) [
      | inl same ↦ inr (same, subst (Contains (s.waiting ++ p ∷ [])) (sym same) (Contains-push s.waiting p))
      | inr other ↦ inl (sym (mark-other q other) ∙ is)
    ];
    below = λ n new old q there. elim (Contains-push_cases s.waiting p q there) [
      | inl before ↦ old q before
      | inr same ↦ new q (sym same)
    ];
    long = length-set s.marks p true;
    rest =
        let one : unmarked (slice_set s.marks p true) + lacks (mark s p) ≡ unmarked s.marks + 0 = sum_by-set lacks s.marks p true false within in
        let was : lacks (mark s p) ≡ 1 = ap lacks none in
        omega (arith, one, was, length-append s.waiting (p ∷ []));
  }

  pub went-marked : Went (λ q. q ≡ p) s (marked s p)
  went-marked = by (mark s p) refl
    where
      by : (b : Bool) → mark s p ≡ b → Went (λ q. q ≡ p) s (if b then s else with_mark s p)
      by true is = went-not (λ q. q ≡ p) s
      by false is = went-one is

  pub marked-at : mark (marked s p) p ≡ true
  marked-at = by (mark s p) refl
    where
      by : (b : Bool) → mark s p ≡ b → mark (if b then s else with_mark s p) p ≡ true
      by true is = is
      by false is = mark-at

-- ---- the parents of edges
-- the parent of one of these edges
abbrev pub IsParent : List Edge → ℕ → Type 0
IsParent es q = (k : ℕ) × (e : Edge) × (slice_get es k ≡ Some e) × (e.parent.0 ≡ q)

pub went-all : (es : List Edge) (s : Marking) → ParentsBelow (length s.marks) es → Went (IsParent es) s (marked_all es s)
went-all [] s below = went-not (IsParent []) s
went-all (e ∷ es) s below =
    let first = went-marked s e.parent.0 (below zero e refl) in
    let next = marked s e.parent.0 in
    went-on (IsParent (e ∷ es)) s next (marked_all es next)
    (went-more (λ q. q ≡ e.parent.0) (IsParent (e ∷ es)) (λ q same. (zero, e, refl, sym same)) s next first)
    (went-more (IsParent es) (IsParent (e ∷ es)) (λ q later. (suc later.0, later.1, later.2, later.3)) next (marked_all es next)
    (went-all es next (λ k f at. subst (λ n. f.parent.0 < n) (sym first.long) (below (suc k) f at))))

pub parents-marked : (es : List Edge) (s : Marking) → ParentsBelow (length s.marks) es → (k : ℕ) (e : Edge) → slice_get es k ≡ Some e
    → mark (marked_all es s) e.parent.0 ≡ true
parents-marked [] s below k e at = absurd (cc)
parents-marked (f ∷ es) s below zero e at =
    let next = marked s f.parent.0 in
    let first = went-marked s f.parent.0 (below zero f refl) in
    let rest = went-all es next (λ k g is. subst (λ n. g.parent.0 < n) (sym first.long) (below (suc k) g is)) in
    subst (λ (g : Edge). mark (marked_all es next) g.parent.0 ≡ true) (some-injective at)
    (rest.stays f.parent.0 (marked-at s f.parent.0 (below zero f refl)))
parents-marked (f ∷ es) s below (suc k) e at =
    let next = marked s f.parent.0 in
    let first = went-marked s f.parent.0 (below zero f refl) in
    parents-marked es next (λ j g is. subst (λ n. g.parent.0 < n) (sym first.long) (below (suc j) g is)) k e at

-- edges from a point, as they are found
pub parents-below : (n p : ℕ) (row : List Edge) (m : ℕ) → AreFrom n p row → m ≡ n → ParentsBelow m row
parents-below n p row m from is k e at =
    let parent = (All-contains (λ (f : Edge). (f.child.0 ≡ p) × (f.parent.0 < n)) row e from (contained-has row k e at)).1 in
    omega (arith, parent, is)

-- ---- what marks say of samples
-- Points with own samples are marked, and all that are marked have samples. The parents of a marked point are marked, or it waits.
pub record IsMarking (ps : List Point) (own : OwnSamples) (s : Marking) : Type 0 where
  pub own_are : (q : ℕ) → q < length ps → is_empty (own_samples_of ps own q) ≡ false → mark s q ≡ true
  pub have : (q : ℕ) → mark s q ≡ true → is_empty (samples_of ps own q) ≡ false
  pub up : (e : Edge) → Contains (edges (nodes ps)) e → mark s e.child.0 ≡ true → (mark s e.parent.0 ≡ true) ⊎ Contains s.waiting e.child.0

-- lists of which some part isn't empty
some-behind : {X : Type 0} (xs ys : List X) → is_empty ys ≡ false → is_empty (xs ++ ys) ≡ false
some-behind [] ys some = some
some-behind (x ∷ xs) ys some = refl

some-before : {X : Type 0} (xs ys : List X) → is_empty xs ≡ false → is_empty (xs ++ ys) ≡ false
some-before [] ys some = absurd (cc)
some-before (x ∷ xs) ys some = refl

some-mapped : {X Y : Type 0} (f : X → Y) (xs : List X) → is_empty xs ≡ false → is_empty (map f xs) ≡ false
some-mapped f [] some = absurd (cc)
some-mapped f (x ∷ xs) some = refl

some-of : {X Y : Type 0} (f : X → List Y) (xs : List X) (k : ℕ) (x : X) → slice_get xs k ≡ Some x → is_empty (f x) ≡ false → is_empty (flat_map f xs) ≡ false
some-of f [] k x at some = absurd (cc)
some-of f (y ∷ xs) zero x at some = some-before (f y) (flat_map f xs) (subst (λ z. is_empty (f z) ≡ false) (sym (some-injective at)) some)
some-of f (y ∷ xs) (suc k) x at some = some-behind (f y) (flat_map f xs) (some-of f xs k x at some)

module _ (ps : List Point) (free : has_cycle (nodes ps) ≡ false) (own : OwnSamples) where
  pub own-some : (q : ℕ) → is_empty (own_samples_of ps own q) ≡ false → is_empty (samples_of ps own q) ≡ false
  own-some q some =
      subst (λ (xs : List (List Value)). is_empty xs ≡ false) (sym (own_and_childrens ps free own q))
      (some-before (own_samples_of ps own q) (flat_map (λ e. map (mapped_sample (partners_of ps e)) (samples_of ps own e.child.0)) (edges_into (nodes ps) q)) some)

  edge-into : (e : Edge) → Contains (edges (nodes ps)) e → Has (edges_into (nodes ps) e.parent.0) e
  unfolding edges_into
  edge-into e there = filter-has (λ f. f.parent.0 == e.parent.0) (edges (nodes ps)) e (has-contained (edges (nodes ps)) e there) (eqb_same e.parent.0)

  parent-some : (e : Edge) → Contains (edges (nodes ps)) e → is_empty (samples_of ps own e.child.0) ≡ false → is_empty (samples_of ps own e.parent.0) ≡ false
  parent-some e there some =
      let over = λ (f : Edge). map (mapped_sample (partners_of ps f)) (samples_of ps own f.child.0) in
      let into = edge-into e there in
      subst (λ (xs : List (List Value)). is_empty xs ≡ false) (sym (own_and_childrens ps free own e.parent.0))
      (some-behind (own_samples_of ps own e.parent.0) (flat_map over (edges_into (nodes ps) e.parent.0))
      (some-of over (edges_into (nodes ps) e.parent.0) into.0 e into.1 (some-mapped (mapped_sample (partners_of ps e)) (samples_of ps own e.child.0) some)))

  -- ---- a point waits no longer
  module _ (marks : List Bool) (items rest : List ℕ) (p : ℕ) (popped : items ≡ rest ++ p ∷ [])
      (is : IsMarking ps own (record { marks = marks; waiting = items })) where
    abbrev was : Marking
    was = record { marks = marks; waiting = rest }

    -- a child that waited still waits, or it is this point
    waited : (q : ℕ) → Contains items q → Contains rest q ⊎ (q ≡ p)
    waited q there = elim (Contains-push_cases rest p q (subst (λ (xs : List ℕ). Contains xs q) popped there)) [
      | inl still ↦ inl still
      | inr same ↦ inr (sym same)
    ]

    pub left-out : slice_index_or marks p false ≡ false → IsMarking ps own was
    left-out none = record {
      own_are = is.own_are;
      have = is.have;
      up = λ e there marked. elim (is.up e there marked) [
        | inl parent ↦ inl parent
        | inr waits ↦ elim (waited e.child.0 waits) [
          | inl still ↦ inr still
          | inr same ↦ absurd (true≢false (sym marked ∙ (ap (λ q. slice_index_or marks q false) same ∙ none)))
        ]
      ];
    }

    -- edges from this point
    module _ (row : List Edge) (at : row ≡ edges_from (nodes ps) p) (below : ParentsBelow (length marks) row) where
      from-here : (k : ℕ) (e : Edge) → slice_get row k ≡ Some e → Contains (edges (nodes ps)) e × (e.child.0 ≡ p)
      unfolding edges_from
      from-here k e is =
          let found = has-filter (λ f. f.child.0 == p) (edges (nodes ps)) e (k, subst (λ (es : List Edge). slice_get es k ≡ Some e) at is) in
          (contained-has (edges (nodes ps)) found.0.0 e found.0.1, eqb_true e.child.0 p found.1)

      in-row : (e : Edge) → Contains (edges (nodes ps)) e → e.child.0 ≡ p → Has row e
      unfolding edges_from
      in-row e there same =
          subst (λ (es : List Edge). Has es e) (sym at)
          (filter-has (λ f. f.child.0 == p) (edges (nodes ps)) e (has-contained (edges (nodes ps)) e there) (ap (λ q. q == p) same ∙ eqb_same p))

      pub passed-on : slice_index_or marks p false ≡ true → IsMarking ps own (marked_all row was)
      passed-on here = record {
        own_are = λ q within some. went.stays q (is.own_are q within some);
        have = λ q now. elim (went.from q now) [
          | inl before ↦ is.have q before
          | inr fresh ↦
              let e : Edge = fresh.0.1 in
              let found = from-here fresh.0.0 e fresh.0.2 in
              subst (λ r. is_empty (samples_of ps own r) ≡ false) fresh.0.3
              (parent-some e found.0 (subst (λ r. is_empty (samples_of ps own r) ≡ false) (sym found.1) (is.have p here)))
        ];
        up = λ e there now. elim (went.from e.child.0 now) [
          | inl before ↦ elim (is.up e there before) [
            | inl parent ↦ inl (went.stays e.parent.0 parent)
            | inr waits ↦ elim (waited e.child.0 waits) [
              | inl still ↦ inr (went.waits e.child.0 still)
              | inr same ↦ let found = in-row e there same in inl (parents-marked row was below found.0 e found.1)
            ]
          ]
          | inr fresh ↦ inr fresh.1
        ];
      }
        where
          went : Went (IsParent row) was (marked_all row was)
          went = went-all row was below

  -- ---- no point waits
  module _ (marks : List Bool) (long : length marks ≡ length ps) (is : IsMarking ps own (record { marks = marks; waiting = [] })) where
    no-edge : (q : ℕ) → slice_index_or marks q false ≡ false → (e : Edge) → Has (edges_into (nodes ps) q) e
        → (e.child.0 < length ps) × (slice_index_or marks e.child.0 false ≡ false)
    unfolding edges_into
    no-edge q none e into =
        let found = has-filter (λ f. f.parent.0 == q) (edges (nodes ps)) e into in
        let there = contained-has (edges (nodes ps)) found.0.0 e found.0.1 in
        let to : e.parent.0 ≡ q = eqb_true e.parent.0 q found.1 in
        (subst (λ n. e.child.0 < n) (length-nodes ps) (edge-below (nodes ps) e there).0, by (slice_index_or marks e.child.0 false) refl (is.up e there) to)
      where
        by : (b : Bool) → slice_index_or marks e.child.0 false ≡ b
            → (slice_index_or marks e.child.0 false ≡ true → (slice_index_or marks e.parent.0 false ≡ true) ⊎ Contains [] e.child.0) → e.parent.0 ≡ q → b ≡ false
        by false at up to = refl
        by true at up to = elim (up at) [
          | inl parent ↦ absurd (true≢false (sym parent ∙ (ap (λ r. slice_index_or marks r false) to ∙ none)))
          | inr waits ↦ absurd (omega (arith, waits.1))
        ]

    empty-each : (f : Edge → List (List Value)) (es : List Edge) → ((k : ℕ) (e : Edge) → slice_get es k ≡ Some e → f e ≡ []) → flat_map f es ≡ []
    empty-each f [] none = refl
    empty-each f (e ∷ es) none = ap (λ (xs : List (List Value)). xs ++ flat_map f es) (none zero e refl) ∙ empty-each f es (λ k g at. none (suc k) g at)

    own-none : (q : ℕ) → q < length ps → slice_index_or marks q false ≡ false → own_samples_of ps own q ≡ []
    own-none q within none = by (own_samples_of ps own q) refl
      where
        by : (xs : List (List Value)) → own_samples_of ps own q ≡ xs → xs ≡ []
        by [] at = refl
        by (x ∷ xs) at = absurd (true≢false (sym (is.own_are q within (ap is_empty at)) ∙ none))

    within-none : (n q : ℕ) → q < length ps → slice_index_or marks q false ≡ false → samples_within n ps own q ≡ []
    within-none zero q within none = own-none q within none
    within-none (suc n) q within none =
        ap (λ (xs : List (List Value)). xs ++ flat_map (λ e. map (mapped_sample (partners_of ps e)) (samples_within n ps own e.child.0)) (edges_into (nodes ps) q)) (own-none q within none)
        ∙ empty-each (λ e. map (mapped_sample (partners_of ps e)) (samples_within n ps own e.child.0)) (edges_into (nodes ps) q)
        (λ k e at. let child = no-edge q none e (k, at) in ap (map (mapped_sample (partners_of ps e))) (within-none n e.child.0 child.0 child.1))

    samples-none : (q : ℕ) → q < length ps → slice_index_or marks q false ≡ false → samples_of ps own q ≡ []
    unfolding samples_of
    samples-none q within none = within-none (depth_of (nodes ps) q) q within none

    mark-is : (q : ℕ) → q < length ps → slice_index_or marks q false ≡ has_samples ps own q
    mark-is q within = by (slice_index_or marks q false) refl
      where
        by : (b : Bool) → slice_index_or marks q false ≡ b → b ≡ not (is_empty (samples_of ps own q))
        by true at = ap not (sym (is.have q at))
        by false at = ap (λ (xs : List (List Value)). not (is_empty xs)) (sym (samples-none q within at))

    pub marks-are : marks ≡ have_samples ps own
    marks-are = fill_by_all (has_samples ps own) marks (length ps) false long mark-is

-- ---- at first
map-same : (xs : List ℕ) → map (λ k. k) xs ≡ xs
map-same [] = refl
map-same (x ∷ xs) = ap (λ ys. x ∷ ys) (map-same xs)

pub range-more : (n : ℕ) → range_with_len 0 (n + 1) ≡ range_with_len 0 n ++ n ∷ []
range-more n =
    sym (map-same (range_with_len 0 (n + 1)))
    ∙ (map-range_with_len_more (λ k. k) 0 n n (omega arith) ∙ ap (λ xs. xs ++ n ∷ []) (map-same (range_with_len 0 n)))

contains-range : (a n q : ℕ) → a ≤ q → q < a + n → Contains (range_with_len a n) q
contains-range a zero q from to = absurd (omega (arith, from, to))
contains-range a (suc n) q from to = elim (eq_or_not a q) [
  | inl same ↦ (zero, omega arith, same)
  | inr other ↦ let rest = contains-range (a + 1) n q (next other) (omega (arith, to)) in (suc rest.0, omega (arith, rest.1), rest.2)
]
  where
    next : a ≢ q → a + 1 ≤ q
    next other = omega (arith, from, other)

range-below : (a n q : ℕ) → Contains (range_with_len a n) q → q < a + n
range-below a zero q (k, within, at) = absurd (omega (arith, within))
range-below a (suc n) q (zero, within, at) = omega (arith, at)
range-below a (suc n) q (suc k, within, at) = let rest = range-below (a + 1) n q (k, omega (arith, within), at) in omega (arith, rest)

pub all-wait : (n q : ℕ) → q < n → Contains (range_with_len 0 n) q
all-wait n q within = contains-range 0 n q (omega arith) (omega (arith, within))

pub wait-below : (n q : ℕ) → Contains (range_with_len 0 n) q → q < n
wait-below n q there = let below = range-below 0 n q there in omega (arith, below)

-- the mark of an engine at a place
engine-at : (engines : List Whole) (q : ℕ) → q < length engines → (engine : Whole) × (slice_get engines q ≡ Some engine) × (slice_index_or (map keeps_some engines) q false ≡ keeps_some engine)
engine-at [] q within = absurd (omega (arith, within))
engine-at (e ∷ engines) zero within = (e, refl, refl)
engine-at (e ∷ engines) (suc q) within = engine-at engines q (omega (arith, within))

marked-within : (engines : List Whole) (q : ℕ) → slice_index_or (map keeps_some engines) q false ≡ true → q < length engines
marked-within [] q is = absurd (cc)
marked-within (e ∷ engines) zero is = omega arith
marked-within (e ∷ engines) (suc q) is = let rest = marked-within engines q is in omega (arith, rest)

-- as many samples as an engine counts
kept-some : (xs : List (List Value)) (n : ℕ) → n ≡ capped (length xs) → nat_lt 0 n ≡ not (is_empty xs)
kept-some [] n is = ap (nat_lt 0) is
kept-some (x ∷ xs) n is = positive n (omega (arith, is))
  where
    positive : (m : ℕ) → 0 < m → nat_lt 0 m ≡ true
    positive m more = grind (arith, more)

module _ (ps : List Point) (free : has_cycle (nodes ps) ≡ false) (engines : List Whole) (are : AreEnginesOf ps engines)
    (own : OwnSamples) (stand : EnginesStandFor engines (own_samples_of ps own)) (waiting : List ℕ) (all : (q : ℕ) → q < length ps → Contains waiting q) where
  first-mark : (q : ℕ) → q < length engines → slice_index_or (map keeps_some engines) q false ≡ not (is_empty (own_samples_of ps own q))
  first-mark q within =
      let at = engine-at engines q within in
      at.2 ∙ kept-some (own_samples_of ps own q) at.0.kept.samples (stand q at.0 at.1).kept_is.number

  pub first-marking : IsMarking ps own (record { marks = map keeps_some engines; waiting = waiting })
  first-marking = record {
    own_are = λ q within some. let long = are.long in first-mark q (omega (arith, within, long)) ∙ ap not some;
    have = λ q is. own-some ps free own q (unempty (is_empty (own_samples_of ps own q)) (sym (first-mark q (marked-within engines q is)) ∙ is));
    up = λ e there is. inr (all e.child.0 (subst (λ n. e.child.0 < n) (length-nodes ps) (edge-below (nodes ps) e there).0));
  }
    where
      unempty : (b : Bool) → not b ≡ true → b ≡ false
      unempty true h = absurd (cc)
      unempty false h = refl

-- ---- as the code meets it
abbrev pub IsGoing : List Point → List Whole → List Bool → List ℕ → Type 0
IsGoing ps engines marks waiting =
    (length marks ≡ length ps)
    × ((q : ℕ) → Contains waiting q → q < length ps)
    × ((own : OwnSamples) → EnginesStandFor engines (own_samples_of ps own) → IsMarking ps own (record { marks = marks; waiting = waiting }))

pub going-first : (ps : List Point) → has_cycle (nodes ps) ≡ false → (engines : List Whole) → AreEnginesOf ps engines
    → (marks : List Bool) → marks ≡ map keeps_some engines → (n : ℕ) → n ≡ length ps → (waiting : List ℕ) → waiting ≡ range_with_len 0 n
    → IsGoing ps engines marks waiting
going-first ps free engines are marks marks-are n same waiting waiting-are = (
  ap length marks-are ∙ (length-map engines keeps_some ∙ are.long),
  λ q there. subst (λ m. q < m) same (wait-below n q (subst (λ (xs : List ℕ). Contains xs q) waiting-are there)),
  λ own stand. subst (λ (ms : List Bool). IsMarking ps own (record { marks = ms; waiting = waiting })) (sym marks-are)
      (first-marking ps free engines are own stand waiting
      (λ q within. subst (λ (xs : List ℕ). Contains xs q) (sym waiting-are) (all-wait n q (subst (λ m. q < m) (sym same) within)))),
)

module _ (ps : List Point) (free : has_cycle (nodes ps) ≡ false) (engines : List Whole) (marks : List Bool) (items rest : List ℕ) (p : ℕ)
    (popped : items ≡ rest ++ p ∷ []) (going : IsGoing ps engines marks items) where
  still-below : (q : ℕ) → Contains rest q → q < length ps
  still-below q there = going.1 q (subst (λ (xs : List ℕ). Contains xs q) (sym popped) (Contains-append_left rest (p ∷ []) q there))

  pub point-within : p < length ps
  point-within = going.1 p (subst (λ (xs : List ℕ). Contains xs p) (sym popped) (Contains-push rest p))

  pub going-left : slice_index_or marks p false ≡ false → IsGoing ps engines marks rest
  going-left none = (going.0, still-below, λ own stand. left-out ps free own marks items rest p popped (going.2 own stand) none)

  one-less : to_do (record { marks = marks; waiting = rest }) < to_do (record { marks = marks; waiting = items })
  one-less = let long = ap length popped in omega (arith, long, length-append rest (p ∷ []))

  module _ (row : List Edge) (at : row ≡ edges_from (nodes ps) p) (from : AreFrom (length ps) p row) where
    pub row-below : ParentsBelow (length marks) row
    row-below = parents-below (length ps) p row (length marks) from going.0

    went : Went (IsParent row) (record { marks = marks; waiting = rest }) (marked_all row (record { marks = marks; waiting = rest }))
    went = went-all row (record { marks = marks; waiting = rest }) row-below

    parent-below : (q : ℕ) → IsParent row q → q < length ps
    parent-below q parent =
        let e : Edge = parent.1 in
        let below = row-below parent.0 e parent.2 in
        subst (λ m. m < length ps) parent.3 (omega (arith, below, going.0))

    module _ (t : Marking) (is : t ≡ marked_all row (record { marks = marks; waiting = rest })) where
      pub going-on : slice_index_or marks p false ≡ true → IsGoing ps engines t.marks t.waiting
      going-on here = subst (λ (s : Marking). IsGoing ps engines s.marks s.waiting) (sym is) (
        went.long ∙ going.0,
        went.below (length ps) parent-below still-below,
        λ own stand. passed-on ps free own marks items rest p popped (going.2 own stand) row at row-below here,
      )

      pub less-on : to_do t < to_do (record { marks = marks; waiting = items })
      less-on = let same = ap to_do is in omega (arith, same, went.rest, one-less)

pub ended : (ps : List Point) → has_cycle (nodes ps) ≡ false → (engines : List Whole) (marks : List Bool) (waiting : List ℕ) → waiting ≡ [] → IsGoing ps engines marks waiting
    → (own : OwnSamples) → EnginesStandFor engines (own_samples_of ps own) → marks ≡ have_samples ps own
ended ps free engines marks waiting none going own stand =
    marks-are ps free own marks going.0 (subst (λ (ws : List ℕ). IsMarking ps own (record { marks = marks; waiting = ws })) none (going.2 own stand))

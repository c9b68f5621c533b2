-- Each path is listed once.
use Rattle.std.specs.Prelude.{◌≡◌, ◌==◌, ◌+◌, ◌≤◌, ◌++◌, ℕ, zero, suc, Bool, true, false, List, [], ◌∷◌, filter, filter_map, flat_map, length, map, slice_get, if◌then◌else◌, Option, Some, None, refl}
use Rattle.std.specs.List.{cons_option, enumerate_from}
use Rattle.std.proofs.Common.{◌∙◌, ap, arith, inl, inr, length-append, sym}
use Rattle.dk_graph.proofs.Links.{is-edge-of}
use Rattle.dk_graph.proofs.Members.{Has, has-append, has-cons, has-filter, has-filter_map, has-first, has-later, has-map, has-none}
use Rattle.dk_graph.specs.Graphs.{Link, depth_of, edge_of, edges, edges_into, links, links_at, node_names}
use Rattle.dk_graph.specs.declared.nodes.Edge.{Edge}
use Rattle.dk_graph.specs.declared.nodes.Node.{Node}
use Rattle.dk_verdicts.specs.Laws.{PathsAreOnce}
use Rattle.dk_verdicts.specs.Paths.{empty_path, paths_to, paths_within}
use Rattle.dk_verdicts.proofs.PathLists.{has_flat}

-- ---- lists none of whose elements have the same of something
abbrev Apart : {X K : Type 0} → (X → K) → List X → Type 0
Apart key [] = Unit {0}
Apart key (x ∷ xs) = ((y : _) → Has xs y → ¬ (key x ≡ key y)) × Apart key xs

module _ {X K : Type 0} (key : X → K) where
  both_apart : (xs ys : List X) → Apart key xs → Apart key ys → ((x y : X) → Has xs x → Has ys y → ¬ (key x ≡ key y)) → Apart key (xs ++ ys)
  both_apart [] ys a b between = b
  both_apart (x ∷ xs) ys a b between = (
    λ y h. elim (has-append xs ys y h) as (λ _. ¬ (key x ≡ key y)) [ inl l ↦ a.0 y l | inr r ↦ between x y (has-first x xs) r ],
    both_apart xs ys a.1 b (λ w y h k. between w y (has-later x xs w h) k),
  )

  filtered_apart : (p : X → Bool) (xs : List X) → Apart key xs → Apart key (filter p xs)
  filtered_apart p [] a = tt
  filtered_apart p (x ∷ xs) a = go (p x) (filtered_apart p xs a.1)
    where
      go : (b : Bool) → Apart key (filter p xs) → Apart key (if b then x ∷ filter p xs else filter p xs)
      go true rest = (λ y h. a.0 y (has-filter p xs y h).0, rest)
      go false rest = rest

  -- each is at one place
  one_place : (xs : List X) → Apart key xs → (i j : ℕ) (x : X) → slice_get xs i ≡ Some x → slice_get xs j ≡ Some x → i ≡ j
  one_place [] a i j x at there = absurd (cc at)
  one_place (y ∷ xs) a zero zero x at there = refl
  one_place (y ∷ xs) a zero (suc j) x at there = let same : y ≡ x = cc in absurd (a.0 x (j, there) (ap key same))
  one_place (y ∷ xs) a (suc i) zero x at there = let same : y ≡ x = cc in absurd (a.0 x (i, at) (ap key same))
  one_place (y ∷ xs) a (suc i) (suc j) x at there = ap suc (one_place xs a.1 i j x at there)

-- elements that come of others, with as much to tell them apart
module _ {X Y K L : Type 0} (key : X → K) (mark : Y → L) where
  mapped_apart : (f : X → Y) → ((x y : X) → mark (f x) ≡ mark (f y) → key x ≡ key y) → (xs : List X) → Apart key xs → Apart mark (map f xs)
  mapped_apart f tells [] a = tt
  mapped_apart f tells (x ∷ xs) a = (
    λ y h same. let found = has-map f xs y h in a.0 found.0 found.1 (tells x found.0 (same ∙ ap mark (sym found.2))),
    mapped_apart f tells xs a.1,
  )

  chosen_apart : (f : X → Option Y) → ((x y : X) (v w : Y) → f x ≡ Some v → f y ≡ Some w → mark v ≡ mark w → key x ≡ key y) → (xs : List X) → Apart key xs → Apart mark (filter_map f xs)
  chosen_apart f tells [] a = tt
  chosen_apart f tells (x ∷ xs) a = go (f x) refl (chosen_apart f tells xs a.1)
    where
      go : (o : Option Y) → f x ≡ o → Apart mark (filter_map f xs) → Apart mark (cons_option o (filter_map f xs))
      go None e rest = rest
      go (Some v) e rest = (λ w h same. let found = has-filter_map f xs w h in a.0 found.0 found.1 (tells x found.0 v w e found.2 same), rest)

  flat_apart : (f : X → List Y) → ((x : X) → Apart mark (f x)) → ((x y : X) (v w : Y) → Has (f x) v → Has (f y) w → mark v ≡ mark w → key x ≡ key y) → (xs : List X) → Apart key xs → Apart mark (flat_map f xs)
  flat_apart f each tells [] a = tt
  flat_apart f each tells (x ∷ xs) a =
      both_apart mark (f x) (flat_map f xs) (each x) (flat_apart f each tells xs a.1)
      (λ v w h k same. let found = has_flat f xs w k in a.0 found.0 found.1 (tells x found.0 v w h found.2 same))

-- numbered elements
numbers_rise : {X : Type 0} (n : ℕ) (xs : List X) (p : ℕ × X) → Has (enumerate_from n xs) p → n ≤ p.0
numbers_rise n [] p h = absurd (has-none p h)
numbers_rise {X = X} n (x ∷ xs) p h = elim (has-cons (n, x) (enumerate_from (n + 1) xs) p h) as (λ _. n ≤ p.0) [
  | inl same ↦ let e = ap (λ (q : ℕ × X). q.0) same in omega (arith, e)
  | inr more ↦ let rest = numbers_rise (n + 1) xs p more in omega (arith, rest)
]

numbers_apart : {X : Type 0} (n : ℕ) (xs : List X) → Apart {X = ℕ × X} {K = ℕ} (λ p. p.0) (enumerate_from n xs)
numbers_apart n [] = tt
numbers_apart n (x ∷ xs) = (λ p h same. let rest = numbers_rise (n + 1) xs p h in omega (arith, rest, same), numbers_apart (n + 1) xs)

-- ---- edges
-- the place of a link's point, and the link's place there
abbrev tag : Link → ℕ × ℕ
tag l = (l.child, l.number)

abbrev edge_tag : Edge → ℕ × ℕ
edge_tag e = (e.child.0, e.number)

module _ (ns : List Node) where
  child_is : (p : ℕ × Node) (l : Link) → Has (links_at p) l → p.0 ≡ l.child
  child_is p l h =
      let found = has-map (λ (n : ℕ × List ℕ). record { child = p.0; number = n.0; parent = n.1 }) (enumerate_from 0 p.1.links) l h in
      ap (λ (m : Link). m.child) found.2

  links_apart : Apart tag (links ns)
  unfolding links
  links_apart =
      flat_apart {X = ℕ × Node} {K = ℕ} (λ p. p.0) tag links_at
      (λ p. mapped_apart {X = ℕ × List ℕ} {K = ℕ} (λ l. l.0) tag (λ (n : ℕ × List ℕ). record { child = p.0; number = n.0; parent = n.1 })
      (λ x y same. ap (λ (t : ℕ × ℕ). t.1) same) (enumerate_from 0 p.1.links) (numbers_apart 0 p.1.links))
      (λ p q v w h k same. child_is p v h ∙ ap (λ (t : ℕ × ℕ). t.0) same ∙ sym (child_is q w k))
      (enumerate_from 0 ns) (numbers_apart 0 ns)

  tag_kept : (l : Link) (e : Edge) → edge_of (node_names ns) l ≡ Some e → tag l ≡ edge_tag e
  tag_kept l e is = let edge = is-edge-of (node_names ns) l e is in λ i. (sym edge.1 i, sym edge.2 i)

  edges_apart : Apart edge_tag (edges ns)
  unfolding edges
  edges_apart = chosen_apart tag edge_tag (edge_of (node_names ns)) (λ l m e f a b same. tag_kept l e a ∙ same ∙ sym (tag_kept m f b)) (links ns) links_apart

  into_apart : (q : ℕ) → Apart edge_tag (edges_into ns q)
  unfolding edges_into
  into_apart q = filtered_apart edge_tag (λ (e : Edge). e.parent.0 == q) (edges ns) edges_apart

  -- ---- paths
  same_ends : {X : Type 0} (xs ys : List X) (x y : X) → xs ++ x ∷ [] ≡ ys ++ y ∷ [] → (xs ≡ ys) × (x ≡ y)
  same_ends [] [] x y is = (refl, cc)
  same_ends [] (z ∷ ys) x y is = let a = ap length is in let b = length-append ys (y ∷ []) in absurd (omega (arith, a, b))
  same_ends (z ∷ xs) [] x y is = let a = ap length is in let b = length-append xs (x ∷ []) in absurd (omega (arith, a, b))
  same_ends (z ∷ xs) (w ∷ ys) x y is =
      let heads : z ≡ w = cc in
      let tails : xs ++ x ∷ [] ≡ ys ++ y ∷ [] = cc in
      let rest = same_ends xs ys x y tails in
      ((λ i. heads i ∷ rest.0 i), rest.1)

  abbrev whole : List Edge → List Edge
  whole path = path

  abbrev with_last : Edge → List Edge → List Edge
  with_last e path = path ++ e ∷ []

  abbrev extended : ℕ → ℕ → Edge → List (List Edge)
  extended n p e = map (with_last e) (paths_within n ns p e.child.0)

  empty_apart : (p q : ℕ) → Apart whole (empty_path p q)
  empty_apart p q = go (p == q)
    where
      go : (b : Bool) → Apart {X = List Edge} whole (if b then [] ∷ [] else [])
      go true = (λ path h. absurd (has-none path h), tt)
      go false = tt

  only_empty : (p q : ℕ) (path : List Edge) → Has (empty_path p q) path → path ≡ []
  only_empty p q path = go (p == q)
    where
      go : (b : Bool) → Has (if b then [] ∷ [] else []) path → path ≡ []
      go true h = elim (has-cons [] [] path h) as (λ _. path ≡ []) [ inl same ↦ sym same | inr more ↦ absurd (has-none path more) ]
      go false h = absurd (has-none path h)

  same_last : (n p : ℕ) (e f : Edge) (v w : List Edge) → Has (extended n p e) v → Has (extended n p f) w → v ≡ w → edge_tag e ≡ edge_tag f
  same_last n p e f v w h k same =
      let x = has-map (with_last e) (paths_within n ns p e.child.0) v h in
      let y = has-map (with_last f) (paths_within n ns p f.child.0) w k in
      ap edge_tag (same_ends x.0 y.0 e f (x.2 ∙ same ∙ sym y.2)).1

  not_empty : (n p q : ℕ) (x y : List Edge) → Has (empty_path p q) x → Has (flat_map (extended n p) (edges_into ns q)) y → ¬ (x ≡ y)
  not_empty n p q x y h k same =
      let by = has_flat (extended n p) (edges_into ns q) y k in
      let front = has-map (with_last by.0) (paths_within n ns p by.0.child.0) y by.2 in
      let none : front.0 ++ by.0 ∷ [] ≡ [] = front.2 ∙ sym same ∙ only_empty p q x h in
      let a = ap length none in
      let b = length-append front.0 (by.0 ∷ []) in
      omega (arith, a, b)

  paths_apart : (n p q : ℕ) → Apart whole (paths_within n ns p q)
  paths_apart zero p q = empty_apart p q
  paths_apart (suc n) p q =
      both_apart whole (empty_path p q) (flat_map (extended n p) (edges_into ns q)) (empty_apart p q)
      (flat_apart edge_tag whole (extended n p)
      (λ e. mapped_apart whole whole (with_last e) (λ x y same. (same_ends x y e e same).0) (paths_within n ns p e.child.0) (paths_apart n p e.child.0))
      (same_last n p) (edges_into ns q) (into_apart q))
      (not_empty n p q)

  once_listed : (p q i j : ℕ) (path : List Edge) → slice_get (paths_to ns p q) i ≡ Some path → slice_get (paths_to ns p q) j ≡ Some path → i ≡ j
  once_listed p q = one_place whole (paths_to ns p q) (paths_apart (depth_of ns q) p q)

pub paths_are_once : PathsAreOnce
paths_are_once ns p q i j path = once_listed ns p q i j path

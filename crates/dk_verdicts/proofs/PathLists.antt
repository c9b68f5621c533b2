-- The paths from a point to another are listed.
use Rattle.std.specs.Prelude.{◌≡◌, ◌==◌, ◌+◌, ◌≤◌, ◌++◌, ◌↔◌, ℕ, zero, suc, Bool, true, false, Contains, List, [], ◌∷◌, flat_map, length, map, if◌then◌else◌, Some, refl}
use Rattle.std.proofs.Common.{ap, arith, inl, inr, length-append, subst, sym}
use Rattle.std.proofs.lemmas.Bool.{eq-eqb, eqb-true}
use Rattle.dk_graph.proofs.Members.{Has, contained-has, filter-has, has-append, has-cons, has-contained, has-filter, has-first, has-later, has-left, has-map, has-none, has-right}
use Rattle.dk_graph.proofs.Ranked.{deeper}
use Rattle.dk_graph.proofs.Walks.{path-append}
use Rattle.dk_graph.specs.Graphs.{ParentsAreDeeper, depth_of, edges, edges_into}
use Rattle.dk_graph.specs.Paths.{IsPath}
use Rattle.dk_graph.specs.declared.nodes.Edge.{Edge}
use Rattle.dk_graph.specs.declared.nodes.Node.{Node}
use Rattle.dk_verdicts.specs.Laws.{PathsAreAll}
use Rattle.dk_verdicts.specs.Paths.{empty_path, paths_to, paths_within}

-- ---- lists
mapped_has : {X Y : Type 0} (f : X → Y) (xs : List X) (x : X) → Has xs x → Has (map f xs) (f x)
mapped_has f [] x h = absurd (has-none x h)
mapped_has f (z ∷ xs) x h = elim (has-cons z xs x h) [
  | inl same ↦ (zero, ap (λ w. Some (f w)) same)
  | inr more ↦ has-later (f z) (map f xs) (f x) (mapped_has f xs x more)
]

flat_has : {X Y : Type 0} (f : X → List Y) (xs : List X) (x : X) (y : Y) → Has xs x → Has (f x) y → Has (flat_map f xs) y
flat_has f [] x y h k = absurd (has-none x h)
flat_has f (z ∷ xs) x y h k = elim (has-cons z xs x h) [
  | inl same ↦ has-left (f z) (flat_map f xs) y (subst (λ w. Has (f w) y) (sym same) k)
  | inr more ↦ has-right (f z) (flat_map f xs) y (flat_has f xs x y more k)
]

pub has_flat : {X Y : Type 0} (f : X → List Y) (xs : List X) (y : Y) → Has (flat_map f xs) y → (x : X) × Has xs x × Has (f x) y
has_flat f [] y h = absurd (has-none y h)
has_flat f (x ∷ xs) y h = elim (has-append (f x) (flat_map f xs) y h) [
  | inl here ↦ (x, has-first x xs, here)
  | inr more ↦ let found = has_flat f xs y more in (found.0, has-later x xs found.0 found.1, found.2)
]

-- ---- the last edge of a path
last_of : (e : Edge) (path : List Edge) → (front : List Edge) × (last : Edge) × (e ∷ path ≡ front ++ last ∷ [])
last_of e [] = ([], e, refl)
last_of e (f ∷ path) = let rest = last_of f path in (e ∷ rest.0, rest.1, ap (λ l. e ∷ l) rest.2)

-- ---- paths
module _ (ns : List Node) where
  without_last : (p : ℕ) (front : List Edge) (last : Edge) (q : ℕ) → IsPath (edges ns) p (front ++ last ∷ []) q
      → IsPath (edges ns) p front last.child.0 × Contains (edges ns) last × (last.parent.0 ≡ q)
  without_last p [] last q is = (sym is.1, is.0, is.2)
  without_last p (e ∷ front) last q is =
      let rest = without_last e.parent.0 front last q is.2 in
      ((is.0, is.1, rest.0), rest.1, rest.2)

  abbrev extended : ℕ → ℕ → Edge → List (List Edge)
  extended n p e = map (λ path. path ++ e ∷ []) (paths_within n ns p e.child.0)

  empty_listed : (p q : ℕ) → p ≡ q → Has (empty_path p q) []
  empty_listed p q is = subst (λ (b : Bool). Has {X = List Edge} (if b then [] ∷ [] else []) []) (sym (eq-eqb p q is)) (zero, refl)

  empty_is : (p q : ℕ) (path : List Edge) → Has (empty_path p q) path → IsPath (edges ns) p path q
  empty_is p q path h = go (p == q) refl h
    where
      go : (b : Bool) → (p == q) ≡ b → Has (if b then [] ∷ [] else []) path → IsPath (edges ns) p path q
      go true e h = elim (has-cons [] [] path h) [
        | inl same ↦ subst (λ (l : List Edge). IsPath (edges ns) p l q) same (eqb-true p q e)
        | inr more ↦ absurd (has-none path more)
      ]
      go false e h = absurd (has-none path h)

  edge_into : (e : Edge) (q : ℕ) → Has (edges ns) e → e.parent.0 ≡ q → Has (edges_into ns q) e
  unfolding edges_into
  edge_into e q h is = filter-has (λ (e : Edge). e.parent.0 == q) (edges ns) e h (eq-eqb e.parent.0 q is)

  into_edge : (e : Edge) (q : ℕ) → Has (edges_into ns q) e → Has (edges ns) e × (e.parent.0 ≡ q)
  unfolding edges_into
  into_edge e q h = let k = has-filter (λ (e : Edge). e.parent.0 == q) (edges ns) e h in (k.0, eqb-true e.parent.0 q k.1)

  pub listed : (n p q : ℕ) (path : List Edge) → length path ≤ n → IsPath (edges ns) p path q → Has (paths_within n ns p q) path
  listed zero p q [] le is = empty_listed p q is
  listed zero p q (e ∷ path) le is = absurd (omega (arith, le))
  listed (suc n) p q [] le is = has-left (empty_path p q) (flat_map (extended n p) (edges_into ns q)) [] (empty_listed p q is)
  listed (suc n) p q (e ∷ path) le is =
      let cut = last_of e path in
      let long : length cut.0 ≤ n = let a = ap length cut.2 in let b = length-append cut.0 (cut.1 ∷ []) in omega (arith, le, a, b) in
      let parts = without_last p cut.0 cut.1 q (subst (λ (l : List Edge). IsPath (edges ns) p l q) cut.2 is) in
      subst (Has (paths_within (suc n) ns p q)) (sym cut.2)
      (has-right (empty_path p q) (flat_map (extended n p) (edges_into ns q)) (cut.0 ++ cut.1 ∷ [])
      (flat_has (extended n p) (edges_into ns q) cut.1 (cut.0 ++ cut.1 ∷ []) (edge_into cut.1 q (has-contained (edges ns) cut.1 parts.1) parts.2)
      (mapped_has (λ (l : List Edge). l ++ cut.1 ∷ []) (paths_within n ns p cut.1.child.0) cut.0 (listed n p cut.1.child.0 cut.0 long parts.0))))

  pub are_paths : (n p q : ℕ) (path : List Edge) → Has (paths_within n ns p q) path → IsPath (edges ns) p path q
  are_paths zero p q path h = empty_is p q path h
  are_paths (suc n) p q path h = elim (has-append (empty_path p q) (flat_map (extended n p) (edges_into ns q)) path h) [
    | inl here ↦ empty_is p q path here
    | inr more ↦
        let by = has_flat (extended n p) (edges_into ns q) path more in
        let front = has-map (λ (l : List Edge). l ++ by.0 ∷ []) (paths_within n ns p by.0.child.0) path by.2 in
        let into = into_edge by.0 q by.1 in
        subst (λ (l : List Edge). IsPath (edges ns) p l q) front.2
        (path-append (edges ns) p front.0 by.0.child.0 (by.0 ∷ []) q (are_paths n p by.0.child.0 front.0 front.1)
        (contained-has (edges ns) into.0.0 by.0 into.0.1, refl, into.1))
  ]

  -- without a cycle
  module _ (deep : ParentsAreDeeper ns) where
    deepens : (p : ℕ) (path : List Edge) (q : ℕ) → IsPath (edges ns) p path q → length path + depth_of ns p ≤ depth_of ns q
    deepens p [] q is = let same = ap (depth_of ns) is in omega (arith, same)
    deepens p (e ∷ path) q is =
        let rest = deepens e.parent.0 path q is.2 in
        let less = deep e is.0 in
        let same = ap (depth_of ns) is.1 in
        omega (arith, rest, less, same)

    all_listed : (p q : ℕ) (path : List Edge) → Contains (paths_to ns p q) path ↔ IsPath (edges ns) p path q
    all_listed p q path = (
      λ h. are_paths (depth_of ns q) p q path (has-contained (paths_to ns p q) path h),
      λ is.
          let long = deepens p path q is in
          let has = listed (depth_of ns q) p q path (omega (arith, long)) is in
          contained-has (paths_to ns p q) has.0 path has.1,
    )

pub paths_are_all : PathsAreAll
paths_are_all ns free p q path = all_listed ns (deeper ns free) p q path

-- The candidates are the instances that hold, in order.
use Rattle.std.specs.Prelude.{◌≡◌, ◌<◌, ℕ, zero, suc, Contains, List, [], ◌∷◌, filter, length, map, slice_get, slice_index_or, Some, option_map}
use Rattle.std.specs.List.{AllPairs}
use Rattle.std.proofs.Common.{ap, arith, subst, sym}
use Rattle.std.proofs.lemmas.List.{get_or-map, length-map}
use Rattle.std.proofs.lemmas.List.Kept.{AllPairs-filter}
use Rattle.dk_base.specs.declared.kinds.VarId.{VarId}
use Rattle.dk_graph.proofs.Members.{contained-has, filter-has, has-contained, has-filter, has-map}
use Rattle.dk_instances.proofs.Ascending.{instances_ascend}
use Rattle.dk_instances.proofs.Listing.{instances_listed}
use Rattle.dk_instances.specs.Instances.{ComesBefore, instances_of}
use Rattle.dk_template.specs.declared.grammar.RowId.{RowId}
use Rattle.dk_filters.specs.Candidates.{candidate_of, candidates_of, it_holds}
use Rattle.dk_filters.specs.Laws.{CandidatesAreInstancesThatHold, CandidatesAscend, KeptCandidatesAscend, StandsBefore}

map-has : {A B : Type 0} (f : A → B) (xs : List A) (k : ℕ) (x : A) → slice_get xs k ≡ Some x → slice_get (map f xs) k ≡ Some (f x)
map-has f [] k x at = absurd (cc)
map-has f (y ∷ xs) zero x at = ap (option_map f) at
map-has f (y ∷ xs) (suc k) x at = map-has f xs k x at

pairs-map : {A B : Type 0} (f : A → B) (R : A → A → Type 0) (S : B → B → Type 0) → ((x y : A) → R x y → S (f x) (f y)) → (a : A) → (xs : List A) → AllPairs R xs → AllPairs S (map f xs)
pairs-map f R S make a xs all i j d ij within =
    let long : j < length xs = subst (λ n. j < n) (length-map xs f) within in
    let here : S (f (slice_index_or xs i a)) (f (slice_index_or xs j a)) = make (slice_index_or xs i a) (slice_index_or xs j a) (all i j a ij long) in
    let first : slice_index_or (map f xs) i d ≡ f (slice_index_or xs i a) = get_or-map f xs i a d (omega (arith, ij, long)) in
    let second : slice_index_or (map f xs) j d ≡ f (slice_index_or xs j a) = get_or-map f xs j a d long in
    subst (λ x. S x (slice_index_or (map f xs) j d)) (sym first) (subst (λ y. S (f (slice_index_or xs i a)) y) (sym second) here)

pub candidates_are : CandidatesAreInstancesThatHold
unfolding candidates_of
candidates_are g least here parents c = (
  λ there.
      let made = has-map (candidate_of least here parents) (filter (it_holds here) (instances_of g here.infos)) c
      (has-contained (map (candidate_of least here parents) (filter (it_holds here) (instances_of g here.infos))) c there) in
      let kept = has-filter (it_holds here) (instances_of g here.infos) made.0 made.1 in
      (made.0, (instances_listed g here.infos made.0.0 made.0.1).0 (contained-has (instances_of g here.infos) kept.0.0 made.0 kept.0.1), kept.1, sym made.2),
  λ given.
      let i : RowId × List VarId = given.0 in
      let listed = has-contained (instances_of g here.infos) i ((instances_listed g here.infos i.0 i.1).1 given.1) in
      let kept = filter-has (it_holds here) (instances_of g here.infos) i listed given.2 in
      subst (Contains (map (candidate_of least here parents) (filter (it_holds here) (instances_of g here.infos)))) (sym given.3)
      (contained-has (map (candidate_of least here parents) (filter (it_holds here) (instances_of g here.infos))) kept.0 (candidate_of least here parents i)
      (map-has (candidate_of least here parents) (filter (it_holds here) (instances_of g here.infos)) kept.0 i kept.1)),
)

pub candidates_ascend : CandidatesAscend
unfolding candidates_of
candidates_ascend g least here parents =
    pairs-map (candidate_of least here parents) ComesBefore StandsBefore (λ i j before. before) (record { 0 = 0 }, []) (filter (it_holds here) (instances_of g here.infos))
    (AllPairs-filter ComesBefore (it_holds here) (instances_of g here.infos) (instances_ascend g here.infos))

pub kept_ascend : KeptCandidatesAscend
kept_ascend g least here parents keeps = AllPairs-filter StandsBefore keeps (candidates_of g least here parents) (candidates_ascend g least here parents)

-- The samples of a point are its own and its children's.
use Rattle.std.specs.Prelude.{◌≡◌, ◌≤◌, ◌+◌, ◌-◌, ◌++◌, ◌==◌, ℕ, zero, suc, All, List, [], ◌∷◌, flat_map, length, map, slice_index_or, refl, option_map}
use Rattle.std.specs.List.{enumerate_from}
use Rattle.std.proofs.Common.{◌∙◌, ap, arith, sym}
use Rattle.std.proofs.lemmas.List.{append-nil, length-map}
use Rattle.std.specs.Option.{option_map_or}
use Rattle.std.proofs.lemmas.List.Elements.{All-append, All-head, All-map, All-tail, All-weaker, filter_passes}
use Rattle.std.proofs.lemmas.List.FromFn.{length-enumerate_from}
use Rattle.dk_base.specs.Shapes.{var}
use Rattle.dk_base.specs.declared.values.Value.{Value}
use Rattle.dk_base.specs.declared.values.Value.TheVariants as value
use Rattle.dk_derive.proofs.Parts.{all_flat_map}
use Rattle.dk_derive.specs.Partners.{partner_with_derived}
use Rattle.dk_derive.specs.Values.{value_by_form, values_by_form}
use Rattle.dk_graph.proofs.Heights.{eqb_true}
use Rattle.dk_graph.proofs.Ranked.{deeper}
use Rattle.dk_graph.specs.Graphs.{ParentsAreDeeper, depth_of, edges, edges_into}
use Rattle.dk_graph.specs.declared.nodes.Edge.{Edge}
use Rattle.dk_points.specs.Links.{nodes}
use Rattle.dk_points.specs.Table.{Point}
use Rattle.dk_samples.specs.Samples.{value_in}
use Rattle.dk_hierarchy.proofs.Deeper.{IsFromBelow, into-from-below}
use Rattle.dk_hierarchy.specs.Laws.{DepthsSuffice, SamplesAreOwnAndChildrens, SamplesHaveAllVariables}
use Rattle.dk_hierarchy.specs.Samples.{OwnSamples, all_vars_of, mapped_sample, own_samples_of, partners_of, samples_of, samples_within}

same-each : {A B : Type 0} (Q : A → Type 0) (f g : A → List B) → ((x : A) → Q x → f x ≡ g x) → (xs : List A) → All Q xs → flat_map f xs ≡ flat_map g xs
same-each Q f g same [] all = refl
same-each Q f g same (x ∷ xs) all = rw (same x (All-head Q x xs all), same-each Q f g same xs (All-tail Q x xs all)) refl

none-each : {A B : Type 0} (f : A → List B) (xs : List A) → All (λ x. ⊥) xs → flat_map f xs ≡ []
none-each f [] all = refl
none-each f (x ∷ xs) all = absurd (All-head (λ x. ⊥) x xs all)

-- what comes over an edge, from samples of the points
abbrev pub over : List Point → (ℕ → List (List Value)) → Edge → List (List Value)
over ps below e = map (mapped_sample (partners_of ps e)) (below e.child.0)

module _ (ps : List Point) (deep : ParentsAreDeeper (nodes ps)) (own : OwnSamples) where
  -- one edge more brings nothing new to a point of no more depth
  one-more : (n p : ℕ) → depth_of (nodes ps) p ≤ n → samples_within (suc n) ps own p ≡ samples_within n ps own p
  one-more zero p le =
      ap (λ xs. own_samples_of ps own p ++ xs)
      (none-each (over ps (samples_within zero ps own)) (edges_into (nodes ps) p)
      (All-weaker (IsFromBelow (nodes ps) p) (λ e. ⊥) (λ e from. omega (arith, le, from.1)) (edges_into (nodes ps) p) (into-from-below (nodes ps) deep p)))
      ∙ append-nil (own_samples_of ps own p)
  one-more (suc n) p le =
      ap (λ xs. own_samples_of ps own p ++ xs)
      (same-each (IsFromBelow (nodes ps) p) (over ps (samples_within (suc n) ps own)) (over ps (samples_within n ps own))
      (λ e from. ap (map (mapped_sample (partners_of ps e))) (one-more n e.child.0 (omega (arith, le, from.1)))) (edges_into (nodes ps) p) (into-from-below (nodes ps) deep p))

  many-more : (k p : ℕ) → samples_within (k + depth_of (nodes ps) p) ps own p ≡ samples_within (depth_of (nodes ps) p) ps own p
  many-more zero p = ap (λ n. samples_within n ps own p) (omega arith)
  many-more (suc k) p =
      let next : suc k + depth_of (nodes ps) p ≡ suc (k + depth_of (nodes ps) p) = omega arith in
      ap (λ n. samples_within n ps own p) next ∙ one-more (k + depth_of (nodes ps) p) p (omega arith) ∙ many-more k p

  pub depths-suffice : (p n : ℕ) → depth_of (nodes ps) p ≤ n → samples_within n ps own p ≡ samples_of ps own p
  unfolding samples_of
  depths-suffice p n le =
      let split : n ≡ (n - depth_of (nodes ps) p) + depth_of (nodes ps) p = omega (arith, le) in
      ap (λ m. samples_within m ps own p) split ∙ many-more (n - depth_of (nodes ps) p) p

  pub own-and-childrens : (p : ℕ) → samples_of ps own p
      ≡ own_samples_of ps own p ++ flat_map (λ e. map (mapped_sample (partners_of ps e)) (samples_of ps own e.child.0)) (edges_into (nodes ps) p)
  own-and-childrens p =
      sym (depths-suffice p (suc (depth_of (nodes ps) p)) (omega arith))
      ∙ ap (λ xs. own_samples_of ps own p ++ xs)
      (same-each (IsFromBelow (nodes ps) p) (over ps (samples_within (depth_of (nodes ps) p) ps own)) (over ps (samples_of ps own))
      (λ e from. ap (map (mapped_sample (partners_of ps e))) (depths-suffice e.child.0 (depth_of (nodes ps) p) (omega (arith, from.1)))) (edges_into (nodes ps) p) (into-from-below (nodes ps) deep p))

pub suffice : DepthsSuffice
suffice ps free own p n le = depths-suffice ps (deeper (nodes ps) free) own p n le

pub own_and_childrens : SamplesAreOwnAndChildrens
own_and_childrens ps free own p = own-and-childrens ps (deeper (nodes ps) free) own p

-- ---- a value for each variable
abbrev IsLong : List Point → ℕ → List Value → Type 0
IsLong ps p s = length s ≡ length (all_vars_of ps p)

own-long : (ps : List Point) (own : OwnSamples) (p : ℕ) → All (IsLong ps p) (own_samples_of ps own p)
own-long ps own p =
    All-map (IsLong ps p) (values_by_form (all_vars_of ps p)) (slice_index_or own p [])
    (λ k d lt. length-map (enumerate_from 0 (all_vars_of ps p)) (λ v. value_by_form (slice_index_or (slice_index_or own p []) k d) v.0 v.1.form) ∙ length-enumerate_from 0 (all_vars_of ps p))

pub mapped-long : (ps : List Point) (e : Edge) (s : List Value) → length (mapped_sample (partners_of ps e) s) ≡ length (all_vars_of ps e.parent.0)
unfolding partners_of
mapped-long ps e s =
    length-map (partners_of ps e) (λ partner. option_map_or (value_in s) partner value.Missing)
    ∙ length-map (enumerate_from 0 (all_vars_of ps e.parent.0)) (λ w. option_map var (partner_with_derived ps e (all_vars_of ps e.parent.0) (all_vars_of ps e.child.0) w.0))
    ∙ length-enumerate_from 0 (all_vars_of ps e.parent.0)

pub into-parent : (ps : List Point) (p : ℕ) → All (λ (e : Edge). e.parent.0 ≡ p) (edges_into (nodes ps) p)
unfolding edges_into
into-parent ps p k d lt = eqb_true (slice_index_or (edges_into (nodes ps) p) k d).parent.0 p (filter_passes (λ (e : Edge). e.parent.0 == p) (edges (nodes ps)) k d lt)

within-long : (ps : List Point) (own : OwnSamples) (n p : ℕ) → All (IsLong ps p) (samples_within n ps own p)
within-long ps own zero p = own-long ps own p
within-long ps own (suc n) p =
    All-append (IsLong ps p) (own_samples_of ps own p) (flat_map (over ps (samples_within n ps own)) (edges_into (nodes ps) p)) (own-long ps own p)
    (all_flat_map (λ (e : Edge). e.parent.0 ≡ p) (IsLong ps p) (over ps (samples_within n ps own))
    (λ e is. All-map (IsLong ps p) (mapped_sample (partners_of ps e)) (samples_within n ps own e.child.0)
    (λ k d lt. mapped-long ps e (slice_index_or (samples_within n ps own e.child.0) k d) ∙ ap (λ q. length (all_vars_of ps q)) is)) (edges_into (nodes ps) p) (into-parent ps p))

pub all_variables : SamplesHaveAllVariables
unfolding samples_of
all_variables ps own p = within-long ps own (depth_of (nodes ps) p) p

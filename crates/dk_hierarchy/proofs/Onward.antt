-- Ways that go on down an edge.
use Rattle.std.specs.Prelude.{◌≡◌, ◌<◌, ◌≤◌, ◌++◌, ℕ, zero, suc, All, IsSomeAnd, List, [], ◌∷◌, flat_map, length, map, refl, slice_get, slice_index_or, Option, Some, None, option_and_then, option_map}
use Rattle.std.specs.List.{enumerate_from, range_with_len}
use Rattle.std.proofs.Common.{◌∙◌, ap, arith, inl, inr, subst, sym}
use Rattle.std.proofs.lemmas.Bool.{cases_lt}
use Rattle.std.proofs.lemmas.List.{length-map, map-append}
use Rattle.std.proofs.lemmas.List.Elements.{All-head, All-tail}
use Rattle.std.proofs.lemmas.List.FromFn.{fill_by_all, get_or-map-range_with_len, length-enumerate_from, length-map-range_with_len}
use Rattle.std.proofs.lemmas.Option.{slice_get_cases}
use Rattle.dk_base.specs.Shapes.{is_base_form, var}
use Rattle.dk_base.specs.declared.kinds.VarId.{VarId}
use Rattle.dk_base.specs.declared.kinds.VarInfo.{VarInfo}
use Rattle.dk_base.specs.declared.values.Value.{Value}
use Rattle.dk_base.specs.declared.values.Value.TheVariants as value
use Rattle.dk_derive.proofs.Alike.{partners_are_alike}
use Rattle.dk_derive.specs.Laws.{IsAlike}
use Rattle.dk_derive.specs.Partners.{partner_with_derived}
use Rattle.dk_graph.proofs.Places.{some-injective}
use Rattle.dk_graph.specs.Graphs.{ParentsAreDeeper, edges_into}
use Rattle.dk_graph.specs.declared.nodes.Edge.{Edge}
use Rattle.dk_points.specs.Links.{nodes}
use Rattle.dk_points.specs.Table.{Point}
use Rattle.dk_samples.specs.Samples.{value_in}
use Rattle.dk_hierarchy.proofs.Edges.{index-map, of_partner, value-through}
use Rattle.dk_hierarchy.proofs.Mapped.{partner-at}
use Rattle.dk_hierarchy.proofs.Partners.{both}
use Rattle.dk_hierarchy.proofs.Samples.{over, own-and-childrens}
use Rattle.dk_hierarchy.proofs.Telling.{Samples, repeated_both, repeated_each, same_as, same_behind, same_trans}
use Rattle.dk_hierarchy.specs.Descent.{own_partners}
use Rattle.dk_hierarchy.specs.Edges.{ArePartners, partner_at}
use Rattle.dk_hierarchy.specs.Samples.{OwnSamples, all_vars_of, mapped_sample, own_samples_of, partners_of, samples_of}
use Rattle.dk_hierarchy.specs.Ways.{SamplesTellTheSame, partners_below, repeated_samples, samples_through, way_below}
use Rattle.dk_hierarchy.specs.declared.way.Way.{Way}

-- ---- lists
map_flat : {A B C : Type 0} (f : B → C) (g : A → List B) (xs : List A) → map f (flat_map g xs) ≡ flat_map (λ x. map f (g x)) xs
map_flat f g [] = refl
map_flat f g (x ∷ xs) = map-append f (g x) (flat_map g xs) ∙ ap (λ ys. map f (g x) ++ ys) (map_flat f g xs)

flat_same : {A B : Type 0} (f g : A → List B) → ((x : A) → f x ≡ g x) → (xs : List A) → flat_map f xs ≡ flat_map g xs
flat_same f g same [] = refl
flat_same f g same (x ∷ xs) = ap (λ ys. ys ++ flat_map f xs) (same x) ∙ ap (λ ys. g x ++ ys) (flat_same f g same xs)

past : {A : Type 0} (xs : List A) (i : ℕ) (d : A) → length xs ≤ i → slice_index_or xs i d ≡ d
past [] i d l = refl
past (x ∷ xs) zero d l = absurd (omega (arith, l))
past (x ∷ xs) (suc i) d l = past xs i d (omega (arith, l))

none_some : {A : Type 0} (x : A) (o : Option A) → o ≡ None → o ≡ Some x → ⊥
none_some x None none some = cc
none_some x (Some y) none some = cc

-- ---- samples
mapped_onward : (below partners : List (Option VarId)) (s : List Value) → mapped_sample (partners_below below partners) s ≡ mapped_sample partners (mapped_sample below s)
mapped_onward below [] s = refl
mapped_onward below (None ∷ partners) s = ap (λ xs. value.Missing ∷ xs) (mapped_onward below partners s)
mapped_onward below (Some w ∷ partners) s =
    ap (λ x. x ∷ mapped_sample (partners_below below partners) s) (sym (value-through below s w)) ∙ ap (λ xs. value_in (mapped_sample below s) w ∷ xs) (mapped_onward below partners s)

pub all_mapped_onward : (below partners : List (Option VarId)) (samples : Samples) → map (mapped_sample (partners_below below partners)) samples ≡ map (mapped_sample partners) (map (mapped_sample below) samples)
all_mapped_onward below partners [] = refl
all_mapped_onward below partners (s ∷ samples) =
    ap (λ t. t ∷ map (mapped_sample (partners_below below partners)) samples) (mapped_onward below partners s) ∙ ap (λ ts. mapped_sample partners (mapped_sample below s) ∷ ts) (all_mapped_onward below partners samples)

-- all samples of a way's lower point: its own, and what comes by the ways that go on from it
module _ (ps : List Point) (deep : ParentsAreDeeper (nodes ps)) (own : OwnSamples) (way : Way) where
  abbrev es : List Edge
  es = edges_into (nodes ps) way.point.0

  abbrev here : Samples
  here = map (mapped_sample way.partners) (own_samples_of ps own way.point.0)

  abbrev come : Edge → Samples
  come e = map (mapped_sample way.partners) (over ps (samples_of ps own) e)

  parts : map (mapped_sample way.partners) (samples_of ps own way.point.0) ≡ here ++ flat_map come es
  parts =
      ap (map (mapped_sample way.partners)) (own-and-childrens ps deep own way.point.0)
      ∙ (map-append (mapped_sample way.partners) (own_samples_of ps own way.point.0) (flat_map (over ps (samples_of ps own)) es)
      ∙ ap (λ xs. here ++ xs) (map_flat (mapped_sample way.partners) (over ps (samples_of ps own)) es))

  pub brought_below : SamplesTellTheSame (samples_through (samples_of ps own) way) (samples_through (own_samples_of ps own) way ++ flat_map (λ e. samples_through (samples_of ps own) (way_below ps way e)) es)
  brought_below =
      same_trans (samples_through (samples_of ps own) way) (repeated_samples way.paths (here ++ flat_map come es)) (repeated_samples way.paths here ++ flat_map (λ e. samples_through (samples_of ps own) (way_below ps way e)) es)
      (same_as (samples_through (samples_of ps own) way) (repeated_samples way.paths (here ++ flat_map come es)) (ap (repeated_samples way.paths) parts))
      (same_trans (repeated_samples way.paths (here ++ flat_map come es)) (repeated_samples way.paths here ++ repeated_samples way.paths (flat_map come es)) (repeated_samples way.paths here ++ flat_map (λ e. samples_through (samples_of ps own) (way_below ps way e)) es)
      (repeated_both way.paths here (flat_map come es))
      (same_behind (repeated_samples way.paths here) (repeated_samples way.paths (flat_map come es)) (flat_map (λ e. samples_through (samples_of ps own) (way_below ps way e)) es)
      (same_trans (repeated_samples way.paths (flat_map come es)) (flat_map (λ e. repeated_samples way.paths (come e)) es) (flat_map (λ e. samples_through (samples_of ps own) (way_below ps way e)) es)
      (repeated_each way.paths come es)
      (same_as (flat_map (λ e. repeated_samples way.paths (come e)) es) (flat_map (λ e. samples_through (samples_of ps own) (way_below ps way e)) es)
      (flat_same (λ e. repeated_samples way.paths (come e)) (λ e. samples_through (samples_of ps own) (way_below ps way e))
      (λ e. ap (repeated_samples way.paths) (sym (all_mapped_onward (partners_of ps e) way.partners (samples_of ps own e.child.0)))) es)))))

-- ---- partners
-- through an edge
pub edge_partners : (ps : List Point) (e : Edge) → ArePartners (all_vars_of ps e.parent.0) (all_vars_of ps e.child.0) (partners_of ps e)
unfolding partners_of
edge_partners ps e = record { long = long; alike = alike }
  where
    long : length (partners_of ps e) ≡ length (all_vars_of ps e.parent.0)
    long =
        length-map (enumerate_from 0 (all_vars_of ps e.parent.0)) (λ w. option_map var (partner_with_derived ps e (all_vars_of ps e.parent.0) (all_vars_of ps e.child.0) w.0))
        ∙ length-enumerate_from 0 (all_vars_of ps e.parent.0)

    alike_at : (w : ℕ) (o : Option ℕ) → partner_with_derived ps e (all_vars_of ps e.parent.0) (all_vars_of ps e.child.0) w ≡ o → (v : VarId) → option_map var o ≡ Some v
        → IsSomeAnd (slice_get (all_vars_of ps e.parent.0) w) (λ a. IsSomeAnd (slice_get (all_vars_of ps e.child.0) v.0) (IsAlike a))
    alike_at w None is v some = absurd (cc)
    alike_at w (Some n) is v some =
        subst (λ (u : VarId). IsSomeAnd (slice_get (all_vars_of ps e.parent.0) w) (λ a. IsSomeAnd (slice_get (all_vars_of ps e.child.0) u.0) (IsAlike a))) (some-injective some) (partners_are_alike ps e w n is)

    alike : (v w : VarId) → partner_at (partners_of ps e) v ≡ Some w → IsSomeAnd (slice_get (all_vars_of ps e.parent.0) v.0) (λ a. IsSomeAnd (slice_get (all_vars_of ps e.child.0) w.0) (IsAlike a))
    alike v w is = elim (slice_get_cases (all_vars_of ps e.parent.0) v.0).1 as (λ _. IsSomeAnd (slice_get (all_vars_of ps e.parent.0) v.0) (λ a. IsSomeAnd (slice_get (all_vars_of ps e.child.0) w.0) (IsAlike a))) [
      | inl c ↦ alike_at v.0 (partner_with_derived ps e (all_vars_of ps e.parent.0) (all_vars_of ps e.child.0) v.0) refl w (sym (partner-at ps e v.0 c.0 c.2) ∙ is)
      | inr c ↦ absurd (none_some w (partner_at (partners_of ps e) v) (past (partners_of ps e) v.0 None (omega (arith, long, c.0))) is)
    ]

-- through partners in the middle
then_found : {A B : Type 0} (f : A → Option B) (o : Option A) (y : B) → option_and_then f o ≡ Some y → (x : A) × (o ≡ Some x) × (f x ≡ Some y)
then_found f None y h = absurd (cc)
then_found f (Some x) y h = (x, refl, h)

some_and : {A : Type 0} (Q : A → Type 0) (o : Option A) (x : A) → o ≡ Some x → Q x → IsSomeAnd o Q
some_and Q o x is q = subst (λ p. IsSomeAnd p Q) (sym is) q

pub partners_onward : (infos middle there : List VarInfo) (partners below : List (Option VarId)) → ArePartners infos middle partners → ArePartners middle there below → ArePartners infos there (partners_below below partners)
partners_onward infos middle there partners below are further = record {
  long = length-map partners (option_and_then (partner_at below)) ∙ are.long;
  alike = λ v w is.
      let step = then_found (partner_at below) (partner_at partners v) w (sym (index-map (option_and_then (partner_at below)) partners v.0 None) ∙ is) in
      let first = both infos middle partners are v step.0 step.1 in
      let second = both middle there below further step.0 w step.2 in
      let same : first.1 ≡ second.0 = some-injective (sym first.3 ∙ second.2) in
      some_and (λ a. IsSomeAnd (slice_get there w.0) (IsAlike a)) (slice_get infos v.0) first.0 first.2
      (some_and (IsAlike first.0) (slice_get there w.0) second.1 second.3
      (first.4.0 ∙ (ap (λ (i : VarInfo). i.kind) same ∙ second.4.0), first.4.1 ∙ (ap (λ (i : VarInfo). is_base_form i.form) same ∙ second.4.1)));
}

-- each variable is its own
own_at : (n : ℕ) (v w : VarId) → partner_at (own_partners n) v ≡ Some w → (v.0 < n) × (v ≡ w)
own_at n v w is = elim (cases_lt v.0 n) as (λ _. (v.0 < n) × (v ≡ w)) [
  | inl l ↦ (l, some-injective (sym (get_or-map-range_with_len (λ v. Some (var v)) 0 n v.0 v.0 None l (omega arith)) ∙ is))
  | inr l ↦ absurd (none_some w (partner_at (own_partners n) v) (past (own_partners n) v.0 None (omega (arith, l, length-map-range_with_len {X = Option VarId} (λ v. Some (var v)) 0 n))) is)
]

pub own_are_partners : (infos : List VarInfo) → ArePartners infos infos (own_partners (length infos))
own_are_partners infos = record {
  long = length-map-range_with_len (λ v. Some (var v)) 0 (length infos);
  alike = λ v w is.
      let at = own_at (length infos) v w is in
      elim (slice_get_cases infos v.0).1 as (λ _. IsSomeAnd (slice_get infos v.0) (λ a. IsSomeAnd (slice_get infos w.0) (IsAlike a))) [
        | inl c ↦
            some_and (λ a. IsSomeAnd (slice_get infos w.0) (IsAlike a)) (slice_get infos v.0) c.0 c.2
            (some_and (IsAlike c.0) (slice_get infos w.0) c.0 (subst (λ (u : VarId). slice_get infos u.0 ≡ Some c.0) at.1 c.2) (refl, refl))
        | inr c ↦ absurd (omega (arith, at.0, c.0))
      ];
}

mapped_own : (s : List Value) (n : ℕ) → length s ≡ n → mapped_sample (own_partners n) s ≡ s
mapped_own s n long = again (range_with_len 0 n) ∙ sym (fill_by_all (λ v. value_in s (var v)) s n value.Missing long (λ k l. refl))
  where
    again : (vs : List ℕ) → map (of_partner s) (map (λ v. Some (var v)) vs) ≡ map (λ v. value_in s (var v)) vs
    again [] = refl
    again (v ∷ vs) = ap (λ xs. value_in s (var v) ∷ xs) (again vs)

pub all_mapped_own : (n : ℕ) (samples : Samples) → All (λ s. length s ≡ n) samples → map (mapped_sample (own_partners n)) samples ≡ samples
all_mapped_own n [] all = refl
all_mapped_own n (s ∷ samples) all =
    ap (λ t. t ∷ map (mapped_sample (own_partners n)) samples) (mapped_own s n (All-head (λ s. length s ≡ n) s samples all))
    ∙ ap (λ ts. s ∷ ts) (all_mapped_own n samples (All-tail (λ s. length s ≡ n) s samples all))

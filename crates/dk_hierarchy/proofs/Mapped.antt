-- Mapped samples are samples of the parent's variables.
use Rattle.std.specs.Prelude.{◌≡◌, ◌+◌, ℕ, zero, suc, All, List, [], ◌∷◌, flat_map, length, map, slice_get, slice_index_or, Option, Some, None, IsSomeAnd, option_map, refl}
use Rattle.std.specs.List.{AllZip, enumerate_from}
use Rattle.std.proofs.Common.{◌∙◌, ap, arith, sym, subst}
use Rattle.std.proofs.lemmas.List.Elements.{All-append, All-map}
use Rattle.dk_base.specs.Shapes.{var}
use Rattle.dk_base.specs.Values.{IsOfKind}
use Rattle.dk_base.specs.Values.Spelling.{IsWritten}
use Rattle.dk_base.specs.declared.kinds.VarId.{VarId}
use Rattle.dk_base.specs.declared.kinds.VarInfo.{VarInfo}
use Rattle.dk_base.specs.declared.values.Value.{Value}
use Rattle.dk_base.specs.declared.values.Value.TheVariants as value
use Rattle.dk_derive.proofs.Alike.{partners_are_alike}
use Rattle.dk_derive.proofs.Parts.{all_flat_map}
use Rattle.dk_derive.proofs.Written.{value_written}
use Rattle.dk_derive.specs.Laws.{IsAlike}
use Rattle.dk_derive.specs.Partners.{partner_with_derived}
use Rattle.dk_graph.proofs.Places.{some-injective}
use Rattle.dk_graph.specs.Graphs.{depth_of, edges_into}
use Rattle.dk_graph.specs.declared.nodes.Edge.{Edge}
use Rattle.dk_instances.specs.Laws.{IsSample}
use Rattle.dk_points.specs.Links.{nodes}
use Rattle.dk_points.specs.Table.{Point}
use Rattle.dk_samples.specs.Samples.{value_in}
use Rattle.dk_hierarchy.proofs.Edges.{of_partner, value-through}
use Rattle.dk_hierarchy.proofs.Samples.{into-parent, mapped-long, over}
use Rattle.dk_hierarchy.specs.Edges.{partner_at}
use Rattle.dk_hierarchy.specs.Laws.{SamplesAreOfVariables}
use Rattle.dk_hierarchy.specs.Samples.{OwnSamples, all_vars_of, mapped_sample, own_samples_of, partners_of, samples_of, samples_within}

-- ---- lists
zip-from : {A B : Type 0} (R : A → B → Type 0) (xs : List A) (ys : List B) (e : B) → length ys ≡ length xs → ((i : ℕ) (x : A) → slice_get xs i ≡ Some x → R x (slice_index_or ys i e)) → AllZip R xs ys
zip-from R [] [] e long each = tt
zip-from R [] (y ∷ ys) e long each = absurd (omega (arith, long))
zip-from R (x ∷ xs) [] e long each = absurd (omega (arith, long))
zip-from R (x ∷ xs) (y ∷ ys) e long each = (each zero x refl, zip-from R xs ys e (omega (arith, long)) (λ i z at. each (suc i) z at))

zip-at : {A B : Type 0} (R : A → B → Type 0) (xs : List A) (ys : List B) (e : B) → AllZip R xs ys → (i : ℕ) (x : A) → slice_get xs i ≡ Some x → R x (slice_index_or ys i e)
zip-at R [] ys e zips i x at = absurd (cc)
zip-at R (y ∷ xs) [] e zips i x at = absurd zips
zip-at R (y ∷ xs) (z ∷ ys) e zips zero x at = subst (λ w. R w z) (some-injective at) zips.0
zip-at R (y ∷ xs) (z ∷ ys) e zips (suc i) x at = zip-at R xs ys e zips.1 i x at

numbered-at : {A B : Type 0} (f : ℕ × A → B) (xs : List A) (from i : ℕ) (d : B) (x : A) → slice_get xs i ≡ Some x → slice_index_or (map f (enumerate_from from xs)) i d ≡ f (from + i, x)
numbered-at f [] from i d x at = absurd (cc)
numbered-at f (y ∷ xs) from zero d x at = ap (λ n. f (n, y)) (omega arith) ∙ ap (λ z. f (from + 0, z)) (some-injective at)
numbered-at f (y ∷ xs) from (suc i) d x at = numbered-at f xs (from + 1) i d x at ∙ ap (λ n. f (n, x)) (omega arith)

pub found : {A : Type 0} (Q : A → Type 0) (o : Option A) → IsSomeAnd o Q → (x : A) × (o ≡ Some x) × Q x
found Q None h = absurd h
found Q (Some x) h = (x, refl, h)

some-and : {A : Type 0} (Q : A → Type 0) (o : Option A) (x : A) → o ≡ Some x → IsSomeAnd o Q → Q x
some-and Q o x is here = subst (λ p. IsSomeAnd p Q) is here

-- ---- through an edge
abbrev Kinded : VarInfo → Value → Type 0
Kinded info x = IsOfKind info.kind x

module _ (ps : List Point) (e : Edge) where
  abbrev pub parent_vars : List VarInfo
  parent_vars = all_vars_of ps e.parent.0

  abbrev pub child_vars : List VarInfo
  child_vars = all_vars_of ps e.child.0

  abbrev pub partner : ℕ → Option ℕ
  partner w = partner_with_derived ps e parent_vars child_vars w

  pub partner-at : (w : ℕ) (info : VarInfo) → slice_get parent_vars w ≡ Some info → partner_at (partners_of ps e) (var w) ≡ option_map var (partner w)
  unfolding partners_of
  partner-at w info at = numbered-at (λ (x : ℕ × VarInfo). option_map var (partner x.0)) parent_vars 0 w None info at ∙ ap (λ n. option_map var (partner n)) (omega arith)

  kind-through : (s : List Value) → AllZip Kinded child_vars s → (w : ℕ) (info : VarInfo) → slice_get parent_vars w ≡ Some info → (o : Option ℕ) → partner w ≡ o → Kinded info (of_partner s (option_map var o))
  kind-through s zips w info at None is = tt
  kind-through s zips w info at (Some v) is =
      let alike = some-and (λ p. IsSomeAnd (slice_get child_vars v) (IsAlike p)) (slice_get parent_vars w) info at (partners_are_alike ps e w v is) in
      let child = found (IsAlike info) (slice_get child_vars v) alike in
      subst (λ k. IsOfKind k (value_in s (var v))) (sym child.2.0) (zip-at Kinded child_vars s value.Missing zips v child.0 child.1)

  written-through : (s : List Value) → All IsWritten s → (o : Option VarId) → IsWritten (of_partner s o)
  written-through s all None = tt
  written-through s all (Some v) = value_written s v.0 all

  sample-through : (s : List Value) → IsSample child_vars s → IsSample parent_vars (mapped_sample (partners_of ps e) s)
  sample-through s is = record {
    kinds = zip-from Kinded parent_vars (mapped_sample (partners_of ps e) s) value.Missing (mapped-long ps e s)
        (λ w info at. subst (Kinded info) (sym (value-through (partners_of ps e) s (var w) ∙ ap (of_partner s) (partner-at w info at))) (kind-through s is.kinds w info at (partner w) refl));
    written = All-map IsWritten (of_partner s) (partners_of ps e) (λ k d lt. written-through s is.written (slice_index_or (partners_of ps e) k d));
  }

within-samples : (ps : List Point) (own : OwnSamples) → ((p : ℕ) → All (IsSample (all_vars_of ps p)) (own_samples_of ps own p))
    → (n p : ℕ) → All (IsSample (all_vars_of ps p)) (samples_within n ps own p)
within-samples ps own are zero p = are p
within-samples ps own are (suc n) p =
    All-append (IsSample (all_vars_of ps p)) (own_samples_of ps own p) (flat_map (over ps (samples_within n ps own)) (edges_into (nodes ps) p)) (are p)
    (all_flat_map (λ (e : Edge). e.parent.0 ≡ p) (IsSample (all_vars_of ps p)) (over ps (samples_within n ps own))
    (λ e is. All-map (IsSample (all_vars_of ps p)) (mapped_sample (partners_of ps e)) (samples_within n ps own e.child.0)
    (λ k d lt. subst (λ q. IsSample (all_vars_of ps q) (mapped_sample (partners_of ps e) (slice_index_or (samples_within n ps own e.child.0) k d))) is
    (sample-through ps e (slice_index_or (samples_within n ps own e.child.0) k d) (within-samples ps own are n e.child.0 k d lt)))) (edges_into (nodes ps) p) (into-parent ps p))

pub samples_are_of_variables : SamplesAreOfVariables
unfolding samples_of
samples_are_of_variables ps own are p = within-samples ps own are (depth_of (nodes ps) p) p

-- The parents of a point are as facts want them.
use Rattle.std.specs.Prelude.{◌≡◌, ◌<◌, ◌==◌, ℕ, zero, suc, ◌+◌, true, false, All, List, [], ◌∷◌, length, map, slice_get, slice_index_or, Option, Some, None, IsSomeAnd, option_map, refl}
use Rattle.std.specs.List.{enumerate_from}
use Rattle.std.specs.Option.{option_map_or}
use Rattle.std.proofs.Common.{◌∙◌, ap, arith, sym, subst}
use Rattle.std.proofs.lemmas.Bool.{false≢true}
use Rattle.std.proofs.lemmas.List.Elements.{All-map, filter_passes}
use Rattle.dk_base.specs.Shapes.{is_base_form, var}
use Rattle.dk_base.specs.declared.kinds.VarId.{VarId}
use Rattle.dk_base.specs.declared.kinds.VarInfo.{VarInfo}
use Rattle.dk_derive.proofs.Alike.{partners_are_alike}
use Rattle.dk_derive.specs.Laws.{IsAlike}
use Rattle.dk_derive.specs.Partners.{partner_with_derived}
use Rattle.dk_filters.specs.Facts.{info_at}
use Rattle.dk_filters.specs.Laws.{PartnersAreLike}
use Rattle.dk_graph.proofs.Heights.{eqb_true}
use Rattle.dk_graph.proofs.Places.{some-injective}
use Rattle.dk_graph.specs.Graphs.{edges, edges_from}
use Rattle.dk_graph.specs.declared.nodes.Edge.{Edge}
use Rattle.dk_hierarchy.specs.Samples.{all_vars_of, partners_of}
use Rattle.dk_points.specs.Links.{nodes}
use Rattle.dk_points.specs.Table.{Point}
use Rattle.dk_report.specs.Laws.{ParentsAreLike}
use Rattle.dk_report.specs.Reports.{answers_of_point}

get-at : {A : Type 0} (xs : List A) (i : ℕ) (d : A) → i < length xs → slice_get xs i ≡ Some (slice_index_or xs i d)
get-at [] i d lt = absurd (omega (arith, lt))
get-at (x ∷ xs) zero d lt = refl
get-at (x ∷ xs) (suc i) d lt = get-at xs i d (omega (arith, lt))

numbered-at : {A B : Type 0} (f : ℕ × A → B) (xs : List A) (from i : ℕ) (d : B) (x : A) → slice_get xs i ≡ Some x → slice_index_or (map f (enumerate_from from xs)) i d ≡ f (from + i, x)
numbered-at f [] from i d x at = absurd (cc)
numbered-at f (y ∷ xs) from zero d x at = ap (λ n. f (n, y)) (omega arith) ∙ ap (λ z. f (from + 0, z)) (some-injective at)
numbered-at f (y ∷ xs) from (suc i) d x at = numbered-at f xs (from + 1) i d x at ∙ ap (λ n. f (n, x)) (omega arith)

some-and : {A : Type 0} (Q : A → Type 0) (o : Option A) (x : A) → o ≡ Some x → IsSomeAnd o Q → Q x
some-and Q o x is here = subst (λ p. IsSomeAnd p Q) is here

module _ (ps : List Point) (e : Edge) where
  abbrev pub parent_vars : List VarInfo
  parent_vars = all_vars_of ps e.parent.0

  abbrev pub child_vars : List VarInfo
  child_vars = all_vars_of ps e.child.0

  abbrev partner : ℕ → Option ℕ
  partner w = partner_with_derived ps e parent_vars child_vars w

  partner-at : (w : ℕ) → w < length parent_vars → slice_index_or (partners_of ps e) w None ≡ option_map var (partner w)
  unfolding partners_of
  partner-at w lt =
      numbered-at (λ (x : ℕ × VarInfo). option_map var (partner x.0)) parent_vars 0 w None (info_at parent_vars (var w)) (get-at parent_vars w (info_at [] (var w)) lt)
      ∙ ap (λ n. option_map var (partner n)) (omega arith)

  abbrev pub Like : VarId → VarId → Type 0
  Like v w = ((info_at parent_vars w).kind ≡ (info_at child_vars v).kind) × (is_base_form (info_at parent_vars w).form ≡ is_base_form (info_at child_vars v).form)

  by-partner : (v w : VarId) → v.0 < length child_vars → w.0 < length parent_vars → (o : Option ℕ) → partner w.0 ≡ o
      → option_map_or (λ (u : VarId). u.0 == v.0) (option_map var o) false ≡ true → Like v w
  by-partner v w v-there w-there None is h = absurd (false≢true h)
  by-partner v w v-there w-there (Some u) is h =
      let alike = partners_are_alike ps e w.0 u is in
      let at-child = some-and (λ p. IsSomeAnd (slice_get child_vars u) (IsAlike p)) (slice_get parent_vars w.0) (info_at parent_vars w) (get-at parent_vars w.0 (info_at [] w) w-there) alike in
      some-and (IsAlike (info_at parent_vars w)) (slice_get child_vars u) (info_at child_vars v)
      (ap (slice_get child_vars) (eqb_true u v.0 h) ∙ get-at child_vars v.0 (info_at [] v) v-there) at-child

  pub like : (v w : VarId) → v.0 < length child_vars → w.0 < length parent_vars
      → option_map_or (λ (u : VarId). u.0 == v.0) (slice_index_or (partners_of ps e) w.0 None) false ≡ true → Like v w
  like v w v-there w-there h =
      by-partner v w v-there w-there (partner w.0) refl (ap (λ o. option_map_or (λ (u : VarId). u.0 == v.0) o false) (sym (partner-at w.0 w-there)) ∙ h)

pub from-child : (ps : List Point) (p : ℕ) → All (λ (e : Edge). e.child.0 ≡ p) (edges_from (nodes ps) p)
unfolding edges_from
from-child ps p k d lt = eqb_true (slice_index_or (edges_from (nodes ps) p) k d).child.0 p (filter_passes (λ (e : Edge). e.child.0 == p) (edges (nodes ps)) k d lt)

pub parents_are_like : ParentsAreLike
parents_are_like ps own p =
    All-map (PartnersAreLike (all_vars_of ps p)) (λ e. record { answers = answers_of_point ps own e.parent.0; partners = partners_of ps e }) (edges_from (nodes ps) p)
    (λ k d lt.
    let e : Edge = slice_index_or (edges_from (nodes ps) p) k d in
    subst (λ q. PartnersAreLike (all_vars_of ps q) (record { answers = answers_of_point ps own e.parent.0; partners = partners_of ps e })) (from-child ps p k d lt) (like ps e))

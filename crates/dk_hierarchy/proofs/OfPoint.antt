-- The variables of a point, base and derived, can be an engine's.
use Rattle.std.specs.Prelude.{◌≡◌, ◌<◌, ◌-◌, ◌++◌, ℕ, true, All, List, flat_map, length, map, refl}
use Rattle.std.specs.List.{enumerate_from}
use Rattle.std.proofs.Common.{◌∙◌, ap, arith, get_or, inl, inr, subst, sym}
use Rattle.std.proofs.lemmas.Bool.{cases_lt, false≢true}
use Rattle.std.proofs.lemmas.List.{get_or-append_right, get_or_append_left, length-append, length-map}
use Rattle.std.proofs.lemmas.List.Elements.{All-map, All-weaker}
use Rattle.dk_base.specs.Shapes.{Shape, is_base_form, of_sequence, shape_of}
use Rattle.dk_derive.proofs.Deriving.{IsBase, IsDerived, base_form, given_derived, shapes_with_derived}
use Rattle.dk_derive.specs.Vars.{with_derived_vars}
use Rattle.dk_points.specs.Laws.{IsBaseVar}
use Rattle.dk_hierarchy.proofs.Edges.{index-map}
use Rattle.dk_hierarchy.specs.Laws.{VariablesAreOfPoints}

-- in a list of base shapes and then derived ones none in front of a base one is derived
base_in_front : (bs given : List Shape) → All IsBase bs → All IsDerived given → (i j : ℕ) (d : Shape) → i < j → j < length (bs ++ given)
    → is_base_form (get_or (bs ++ given) j d).form ≡ true → is_base_form (get_or (bs ++ given) i d).form ≡ true
base_in_front bs given base derived i j d before within is = elim (cases_lt j (length bs)) as (λ _. is_base_form (get_or (bs ++ given) i d).form ≡ true) [
  | inl l ↦
      let m : i < length bs = omega arith in
      subst (λ (s : Shape). is_base_form s.form ≡ true) (sym (get_or_append_left bs given d i m)) (base i d m)
  | inr l ↦
      let both = length-append bs given in
      let m : j - length bs < length given = omega (arith, both, within, l) in
      let at = get_or-append_right bs given (length bs) j d refl l in
      absurd (false≢true (sym (derived (j - length bs) d m) ∙ (ap (λ (s : Shape). is_base_form s.form) (sym at) ∙ is)))
]

pub of_point : VariablesAreOfPoints
of_point base all few = record {
  few = few;
  base_first = λ i j d before within is.
      let infos = with_derived_vars base in
      let bs = map shape_of base in
      let es = enumerate_from 0 bs in
      let given = flat_map (of_sequence es) es in
      let shapes : map shape_of infos ≡ bs ++ given = shapes_with_derived base in
      let at : (k : ℕ) → is_base_form (get_or infos k d).form ≡ is_base_form (get_or (bs ++ given) k (shape_of d)).form =
      λ k. ap (λ (s : Shape). is_base_form s.form) (sym (index-map shape_of infos k d)) ∙ ap (λ (ss : List Shape). is_base_form (get_or ss k (shape_of d)).form) shapes in
      let long : length infos ≡ length (bs ++ given) = sym (length-map infos shape_of) ∙ ap length shapes in
      at i
      ∙ base_in_front bs given (All-map IsBase shape_of base (All-weaker IsBaseVar (λ v. IsBase (shape_of v)) base_form base all)) (given_derived es) i j (shape_of d) before
      (omega (arith, long, within)) (sym (at j) ∙ is);
}

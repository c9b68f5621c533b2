-- The section of a point doesn't depend on the order of own samples.
use Rattle.std.proofs.Common.{◌≡◌, ℕ, zero, suc, Bool, List, [], ◌∷◌, IsPermutation, flat_map, get_or, map, refl, ap, ◌∙◌, arith, if◌then◌else◌}
use Rattle.std.proofs.Math.Path.{fun_ext}
use Rattle.std.proofs.lemmas.List.Sorted.{IsPermutation-append, IsPermutation-map, IsPermutation-refl, length_permutation}
use Rattle.dk_base.specs.Pieces.{is_empty}
use Rattle.dk_derive.specs.Values.{values_by_form}
use Rattle.dk_filters.specs.Answers.{Answers}
use Rattle.dk_filters.specs.Candidates.{candidates_kept, candidates_of}
use Rattle.dk_graph.specs.Graphs.{depth_of, edges_from, edges_into}
use Rattle.dk_graph.specs.declared.nodes.Edge.{Edge}
use Rattle.dk_hierarchy.specs.Samples.{OwnSamples, all_vars_of, mapped_sample, own_samples_of, partners_of, samples_of, samples_within}
use Rattle.dk_points.specs.Links.{nodes}
use Rattle.dk_points.specs.Table.{Point}
use Rattle.dk_print.specs.Sections.{section_text}
use Rattle.dk_report.specs.Keeping.{keeps}
use Rattle.dk_report.specs.Reports.{all_samples_of, answers_of_point, kept_instances, name_in_table, section_of}
use Rattle.dk_report.specs.declared.options.Options.{Options}
use Rattle.dk_template.specs.declared.grammar.Grammar.{Grammar}
use Rattle.dk_recorders.proofs.Answering.{answers_same}

flat_moved : {X Y : Type 0} (f g : X → List Y) → ((x : X) → IsPermutation (f x) (g x)) → (xs : List X) → IsPermutation (flat_map f xs) (flat_map g xs)
flat_moved f g each [] = IsPermutation-refl []
flat_moved f g each (x ∷ xs) = IsPermutation-append (f x) (g x) (flat_map f xs) (flat_map g xs) (each x) (flat_moved f g each xs)

none_alike : {X : Type 0} (xs ys : List X) → IsPermutation xs ys → is_empty xs ≡ is_empty ys
none_alike [] [] moved = refl
none_alike [] (y ∷ ys) moved = let long = length_permutation [] (y ∷ ys) moved in absurd (omega (arith, long))
none_alike (x ∷ xs) [] moved = let long = length_permutation (x ∷ xs) [] moved in absurd (omega (arith, long))
none_alike (x ∷ xs) (y ∷ ys) moved = refl

module _ (ps : List Point) (own others : OwnSamples) (moved : (p : ℕ) → IsPermutation (get_or own p []) (get_or others p [])) where
  own_moved : (p : ℕ) → IsPermutation (own_samples_of ps own p) (own_samples_of ps others p)
  own_moved p = IsPermutation-map (values_by_form (all_vars_of ps p)) (get_or own p []) (get_or others p []) (moved p)

  within_moved : (n p : ℕ) → IsPermutation (samples_within n ps own p) (samples_within n ps others p)
  within_moved zero p = own_moved p
  within_moved (suc n) p =
      IsPermutation-append (own_samples_of ps own p) (own_samples_of ps others p)
      (flat_map (λ (e : Edge). map (mapped_sample (partners_of ps e)) (samples_within n ps own e.child.0)) (edges_into (nodes ps) p))
      (flat_map (λ (e : Edge). map (mapped_sample (partners_of ps e)) (samples_within n ps others e.child.0)) (edges_into (nodes ps) p))
      (own_moved p)
      (flat_moved (λ (e : Edge). map (mapped_sample (partners_of ps e)) (samples_within n ps own e.child.0))
      (λ (e : Edge). map (mapped_sample (partners_of ps e)) (samples_within n ps others e.child.0))
      (λ e. IsPermutation-map (mapped_sample (partners_of ps e)) (samples_within n ps own e.child.0) (samples_within n ps others e.child.0) (within_moved n e.child.0))
      (edges_into (nodes ps) p))

  all_moved : (p : ℕ) → IsPermutation (all_samples_of ps own p) (all_samples_of ps others p)
  unfolding samples_of
  all_moved p = within_moved (depth_of (nodes ps) p) p

  answers_alike : (p : ℕ) → answers_of_point ps own p ≡ answers_of_point ps others p
  answers_alike p = answers_same (all_vars_of ps p) (all_samples_of ps own p) (all_samples_of ps others p) (all_moved p)

  -- the section of a point by what all points tell
  abbrev section_by : Grammar → Options → ℕ → Bool → (ℕ → Answers) → List ℕ
  section_by grammar options p none answers =
      if none then []
      else section_text (name_in_table ps p) ((answers p).counted []) (all_vars_of ps p)
      (candidates_kept (keeps options) (candidates_of grammar options.least (answers p)
      (map (λ (e : Edge). record { answers = answers e.parent.0; partners = partners_of ps e }) (edges_from (nodes ps) p))))

  pub section_alike : (grammar : Grammar) (options : Options) (p : ℕ) → section_of grammar options ps own p ≡ section_of grammar options ps others p
  unfolding section_of kept_instances
  section_alike grammar options p =
      ap (λ (b : Bool). section_by grammar options p b (answers_of_point ps own)) (none_alike (all_samples_of ps own p) (all_samples_of ps others p) (all_moved p))
      ∙ ap (section_by grammar options p (is_empty (all_samples_of ps others p))) (fun_ext answers_alike)

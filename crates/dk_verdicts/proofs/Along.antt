-- Records reach points along paths.
use Rattle.std.specs.Prelude.{◌≡◌, ◌==◌, ◌++◌, ℕ, zero, suc, Bool, true, false, List, [], ◌∷◌, flat_map, map, if◌then◌else◌, refl}
use Rattle.std.proofs.Common.{◌∙◌, ap, subst, sym}
use Rattle.std.proofs.lemmas.Bool.{eq-eqb, eqb-true, false≢true}
use Rattle.std.proofs.lemmas.List.{map-append}
use Rattle.dk_base.specs.declared.values.Value.{Value}
use Rattle.dk_derive.specs.Values.{values_by_form}
use Rattle.dk_graph.specs.Graphs.{depth_of, edges_into}
use Rattle.dk_graph.specs.declared.nodes.Edge.{Edge}
use Rattle.dk_hierarchy.specs.Samples.{all_vars_of, mapped_sample, own_samples_of, partners_of, samples_of, samples_within}
use Rattle.dk_points.specs.Links.{nodes}
use Rattle.dk_points.specs.Table.{Point}
use Rattle.dk_verdicts.proofs.Reached.{at_only, beside_only}
use Rattle.dk_verdicts.specs.Laws.{RecordsReachAlongPaths}
use Rattle.dk_verdicts.specs.Paths.{along, empty_path, paths_within}
use Rattle.dk_verdicts.specs.Records.{only}

module _ (ps : List Point) (p : ℕ) (values : List Value) where
  abbrev sample : List Value
  sample = values_by_form (all_vars_of ps p) values

  abbrev walk : List Edge → List Value
  walk path = along ps path sample

  over_last : (path : List Edge) (e : Edge) (s : List Value) → along ps (path ++ e ∷ []) s ≡ mapped_sample (partners_of ps e) (along ps path s)
  over_last [] e s = refl
  over_last (f ∷ path) e s = over_last path e (mapped_sample (partners_of ps f) s)

  own_along : (q : ℕ) → own_samples_of ps (only p values) q ≡ map walk (empty_path p q)
  own_along q = go (p == q) refl
    where
      go : (b : Bool) → (p == q) ≡ b → own_samples_of ps (only p values) q ≡ map walk (empty_path p q)
      go true e =
          subst (λ (n : ℕ). own_samples_of ps (only p values) n ≡ sample ∷ []) (eqb-true p q e) (ap (map (values_by_form (all_vars_of ps p))) (at_only p values))
          ∙ sym (ap (λ (b : Bool). map walk (if b then [] ∷ [] else [])) e)
      go false e =
          ap (map (values_by_form (all_vars_of ps q))) (beside_only p q values (λ is. false≢true (sym e ∙ eq-eqb p q (sym is))))
          ∙ sym (ap (λ (b : Bool). map walk (if b then [] ∷ [] else [])) e)

  over_edge : (e : Edge) (paths : List (List Edge)) → map (mapped_sample (partners_of ps e)) (map walk paths) ≡ map walk (map (λ path. path ++ e ∷ []) paths)
  over_edge e [] = refl
  over_edge e (path ∷ paths) = λ i. sym (over_last path e sample) i ∷ over_edge e paths i

  -- what comes over edges, and the paths that end with them
  abbrev brought : ℕ → List Edge → List (List Value)
  brought n es = flat_map (λ e. map (mapped_sample (partners_of ps e)) (samples_within n ps (only p values) e.child.0)) es

  abbrev ended : ℕ → List Edge → List (List Edge)
  ended n es = flat_map (λ e. map (λ path. path ++ e ∷ []) (paths_within n (nodes ps) p e.child.0)) es

  over_edges : (n : ℕ) → ((q : ℕ) → samples_within n ps (only p values) q ≡ map walk (paths_within n (nodes ps) p q))
      → (es : List Edge) → brought n es ≡ map walk (ended n es)
  over_edges n each [] = refl
  over_edges n each (e ∷ es) =
      ap (λ (s : List (List Value)). map (mapped_sample (partners_of ps e)) s ++ brought n es) (each e.child.0)
      ∙ ap (λ (s : List (List Value)). s ++ brought n es) (over_edge e (paths_within n (nodes ps) p e.child.0))
      ∙ ap (λ (s : List (List Value)). map walk (map (λ path. path ++ e ∷ []) (paths_within n (nodes ps) p e.child.0)) ++ s) (over_edges n each es)
      ∙ sym (map-append walk (map (λ path. path ++ e ∷ []) (paths_within n (nodes ps) p e.child.0)) (ended n es))

  pub within_along : (n q : ℕ) → samples_within n ps (only p values) q ≡ map walk (paths_within n (nodes ps) p q)
  within_along zero q = own_along q
  within_along (suc n) q =
      ap (λ (s : List (List Value)). s ++ brought n (edges_into (nodes ps) q)) (own_along q)
      ∙ ap (λ (s : List (List Value)). map walk (empty_path p q) ++ s) (over_edges n (within_along n) (edges_into (nodes ps) q))
      ∙ sym (map-append walk (empty_path p q) (ended n (edges_into (nodes ps) q)))

pub records_reach_along_paths : RecordsReachAlongPaths
unfolding samples_of
records_reach_along_paths r q = within_along r.table r.point r.values (depth_of (nodes r.table) q) q

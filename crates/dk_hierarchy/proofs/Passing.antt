-- Shortcuts past points, as they are found.
use Rattle.std.specs.Prelude.{◌≡◌, ◌<◌, ◌++◌, ℕ, zero, suc, All, List, [], ◌∷◌, flat_map, length, map, replicate, slice_index, slice_index_or, slice_set, Option, Some, None, refl}
use Rattle.std.proofs.Common.{◌∙◌, ◌≢◌, ap, arith, inl, inr, subst, sym}
use Rattle.std.proofs.lemmas.List.{append-nil, get_or-set_same, get_or-set_other}
use Rattle.std.proofs.lemmas.List.Elements.{All-head}
use Rattle.dk_engine.specs.Reading.Levels.{Whole}
use Rattle.dk_graph.proofs.Places.{some-injective}
use Rattle.dk_graph.proofs.Steps.{eq_or_not}
use Rattle.dk_graph.specs.Graphs.{AreRanks, ParentsAreDeeper, edges_into}
use Rattle.dk_graph.specs.declared.nodes.Edge.{Edge}
use Rattle.dk_points.specs.Links.{nodes}
use Rattle.dk_points.specs.Table.{Point}
use Rattle.dk_presence.specs.Patterns.{capped}
use Rattle.dk_hierarchy.proofs.Following.{IsFromLower, into_all, into_from_lower}
use Rattle.dk_hierarchy.proofs.Onward.{all_mapped_onward, edge_partners, partners_onward}
use Rattle.dk_hierarchy.proofs.Samples.{over, own-and-childrens}
use Rattle.dk_hierarchy.proofs.Telling.{Samples}
use Rattle.dk_hierarchy.specs.Edges.{ArePartners}
use Rattle.dk_hierarchy.specs.Samples.{OwnSamples, all_vars_of, mapped_sample, own_samples_of, partners_of, samples_of}
use Rattle.dk_hierarchy.specs.Shortcuts.{AreShortcuts, LeadsDown, ShortcutsHold, samples_by, shortcut_at, shortened, way_of_edge}
use Rattle.dk_hierarchy.specs.Standing.{EnginesStandFor}
use Rattle.dk_hierarchy.specs.declared.way.Way.{Way}

-- ---- past a point into which one edge comes
module _ (ps : List Point) (p : ℕ) (e : Edge) (only : edges_into (nodes ps) p ≡ e ∷ []) where
  of_all : (P : Edge → Type 0) → All P (edges_into (nodes ps) p) → P e
  of_all P all = All-head P e [] (subst (All P) only all)

  into : (e.child.0 < length ps) × (e.parent.0 ≡ p)
  into = of_all (λ (f : Edge). (f.child.0 < length ps) × (f.parent.0 ≡ p)) (into_all ps p)

  abbrev way : Way
  way = way_of_edge ps e

  module _ (engines : List Whole) (shortcuts : List (Option Way)) (are : AreShortcuts ps engines shortcuts) where
    abbrev found : Way
    found = shortened (shortcut_at shortcuts e.child.0) way

    -- where it leads
    leads : LeadsDown ps p found
    leads = by (shortcut_at shortcuts e.child.0) refl
      where
        lower : (ranks : List ℕ) → AreRanks (nodes ps) ranks → slice_index ranks e.child.0 < slice_index ranks p
        lower ranks ranked = of_all (IsFromLower ranks (slice_index ranks p)) (into_from_lower (nodes ps) ranks ranked p)

        partners : ArePartners (all_vars_of ps p) (all_vars_of ps e.child.0) way.partners
        partners = subst (λ q. ArePartners (all_vars_of ps q) (all_vars_of ps e.child.0) (partners_of ps e)) into.1 (edge_partners ps e)

        by : (s : Option Way) → shortcut_at shortcuts e.child.0 ≡ s → LeadsDown ps p (shortened s way)
        by None at = record {
          within = into.0;
          partners = partners;
          lower = λ ranks ranked. let less = lower ranks ranked in omega (arith, less);
        }
        by (Some rest) at =
            let on = are.down e.child.0 rest at in
            record {
              within = on.within;
              partners = partners_onward (all_vars_of ps p) (all_vars_of ps e.child.0) (all_vars_of ps rest.point.0) way.partners rest.partners partners on.partners;
              lower = λ ranks ranked. let less = lower ranks ranked in let further = on.lower ranks ranked in omega (arith, less, further);
            }

    -- what it says, where the point has no own samples
    module _ (deep : ParentsAreDeeper (nodes ps)) (own : OwnSamples) (hold : ShortcutsHold ps own shortcuts) (none : own_samples_of ps own p ≡ []) where
      abbrev all : ℕ → Samples
      all = samples_of ps own

      come : all p ≡ map (mapped_sample (partners_of ps e)) (all e.child.0)
      come =
          own-and-childrens ps deep own p
          ∙ (ap (λ (xs : Samples). xs ++ flat_map (over ps all) (edges_into (nodes ps) p)) none
          ∙ (ap (flat_map (over ps all)) only ∙ append-nil (over ps all e)))

      says : all p ≡ samples_by all p (Some found)
      says = by (shortcut_at shortcuts e.child.0) (hold e.child.0)
        where
          by : (s : Option Way) → all e.child.0 ≡ samples_by all e.child.0 s → all p ≡ samples_by all p (Some (shortened s way))
          by None is = come
          by (Some rest) is =
              come ∙ (ap (map (mapped_sample (partners_of ps e))) is ∙ sym (all_mapped_onward rest.partners (partners_of ps e) (all rest.point.0)))

    -- with it in its place
    module _ (deep : ParentsAreDeeper (nodes ps)) (within : p < length shortcuts)
        (none : (own : OwnSamples) → EnginesStandFor engines (own_samples_of ps own) → own_samples_of ps own p ≡ []) where
      abbrev with_found : List (Option Way)
      with_found = slice_set shortcuts p (Some found)

      here : shortcut_at with_found p ≡ Some found
      here = get_or-set_same shortcuts p (Some found) None within

      there : (q : ℕ) → q ≢ p → shortcut_at with_found q ≡ shortcut_at shortcuts q
      there q other = get_or-set_other shortcuts p q (Some found) None other

      pub passed : AreShortcuts ps engines with_found
      passed = record {
        down = λ q rest to. elim (eq_or_not q p) as (λ _. LeadsDown ps q rest) [
          | inl same ↦ subst (λ r. LeadsDown ps r rest) (sym same)
              (subst (LeadsDown ps p) (some-injective (sym here ∙ (ap (shortcut_at with_found) (sym same) ∙ to))) leads)
          | inr other ↦ are.down q rest (sym (there q other) ∙ to)
        ];
        hold = λ own stand q. elim (eq_or_not q p) as (λ _. samples_of ps own q ≡ samples_by (samples_of ps own) q (shortcut_at with_found q)) [
          | inl same ↦ subst (λ r. samples_of ps own r ≡ samples_by (samples_of ps own) r (shortcut_at with_found r)) (sym same)
              (says deep own (are.hold own stand) (none own stand) ∙ ap (samples_by (samples_of ps own) p) (sym here))
          | inr other ↦ are.hold own stand q ∙ ap (samples_by (samples_of ps own) q) (sym (there q other))
        ];
      }

-- a list of one item
pub one_item : {A : Type 0} (xs : List A) (d : A) → length xs ≡ 1 → xs ≡ slice_index_or xs 0 d ∷ []
one_item [] d one = absurd (omega (arith, one))
one_item (x ∷ []) d one = refl
one_item (x ∷ y ∷ xs) d one = absurd (omega (arith, one))

-- an engine that was never fed has no samples
pub unfed : (xs : Samples) (n : ℕ) → n ≡ capped (length xs) → n ≡ 0 → xs ≡ []
unfed [] n is none = refl
unfed (x ∷ xs) n is none = absurd (omega (arith, is, none))

-- ---- at first
first_at : (n p : ℕ) → shortcut_at (replicate n None) p ≡ None
first_at zero p = refl
first_at (suc n) zero = refl
first_at (suc n) (suc p) = first_at n p

pub none_lead : (ps : List Point) (shortcuts : List (Option Way)) (p : ℕ) (rest : Way) → shortcut_at shortcuts p ≡ None → shortcut_at shortcuts p ≡ Some rest → LeadsDown ps p rest
none_lead ps shortcuts p rest at to = absurd (cc)

pub at_first : (ps : List Point) (engines : List Whole) (n : ℕ) → AreShortcuts ps engines (replicate n None)
at_first ps engines n = record {
  down = λ p rest to. none_lead ps (replicate n None) p rest (first_at n p) to;
  hold = λ own stand p. ap (samples_by (samples_of ps own) p) (sym (first_at n p));
}

-- without any
pub no_shortcuts : (ps : List Point) (engines : List Whole) → AreShortcuts ps engines []
no_shortcuts ps engines = at_first ps engines 0

-- Ways that go on by shortcuts.
use Rattle.std.specs.Prelude.{◌≡◌, ◌<◌, ◌++◌, ℕ, List, length, map, slice_index, Option, Some, None, refl}
use Rattle.std.proofs.Common.{◌∙◌, ap, arith, subst, sym}
use Rattle.dk_graph.specs.Graphs.{AreRanks}
use Rattle.dk_graph.specs.declared.nodes.Edge.{Edge}
use Rattle.dk_points.specs.Links.{nodes}
use Rattle.dk_points.specs.Table.{Point}
use Rattle.dk_hierarchy.proofs.Descending.{IsInto, below_is_way}
use Rattle.dk_hierarchy.proofs.MoreWays.{way_at_added}
use Rattle.dk_hierarchy.proofs.Onward.{all_mapped_onward, partners_onward}
use Rattle.dk_hierarchy.proofs.Telling.{Samples}
use Rattle.dk_hierarchy.specs.Descent.{IsWayDown, ways_in}
use Rattle.dk_hierarchy.specs.Samples.{OwnSamples, all_vars_of, mapped_sample, samples_of}
use Rattle.dk_hierarchy.specs.Shortcuts.{LeadDown, LeadsDown, ShortcutsHold, samples_by, shortcut_at, shortened, way_on, way_then, with_ranked}
use Rattle.dk_hierarchy.specs.Ways.{SamplesTellTheSame, repeated_samples, samples_through, samples_through_all, way_below}
use Rattle.dk_hierarchy.specs.declared.way.Way.{Way}

-- ---- where they lead
module _ (ps : List Point) (p : ℕ) where
  then_is_way : (way rest : Way) → IsWayDown ps p way → LeadsDown ps way.point.0 rest → IsWayDown ps p (way_then way rest)
  then_is_way way rest is leads = record {
    within = leads.within;
    partners = partners_onward (all_vars_of ps p) (all_vars_of ps way.point.0) (all_vars_of ps rest.point.0) way.partners rest.partners is.partners leads.partners;
    some = is.some;
  }

  pub on_is_way : (shortcuts : List (Option Way)) → LeadDown ps shortcuts → (way : Way) → IsWayDown ps p way → (e : Edge) → IsInto ps p way.point.0 e
      → IsWayDown ps p (way_on ps shortcuts way e)
  on_is_way shortcuts down way is e into = by (shortcut_at shortcuts e.child.0) refl
    where
      below : IsWayDown ps p (way_below ps way e)
      below = below_is_way ps p way is e into

      by : (s : Option Way) → shortcut_at shortcuts e.child.0 ≡ s → IsWayDown ps p (shortened s (way_below ps way e))
      by None at = below
      by (Some rest) at = then_is_way (way_below ps way e) rest below (down e.child.0 rest at)

module _ (ps : List Point) (shortcuts : List (Option Way)) (down : LeadDown ps shortcuts) (way : Way) (e : Edge) where
  pub on_within : e.child.0 < length ps → (way_on ps shortcuts way e).point.0 < length ps
  on_within child = by (shortcut_at shortcuts e.child.0) refl
    where
      by : (s : Option Way) → shortcut_at shortcuts e.child.0 ≡ s → (shortened s (way_below ps way e)).point.0 < length ps
      by None at = child
      by (Some rest) at = (down e.child.0 rest at).within

  pub on_lower : (ranks : List ℕ) → AreRanks (nodes ps) ranks → (rank : ℕ) → slice_index ranks e.child.0 < rank
      → slice_index ranks (way_on ps shortcuts way e).point.0 < rank
  on_lower ranks are rank less = by (shortcut_at shortcuts e.child.0) refl
    where
      by : (s : Option Way) → shortcut_at shortcuts e.child.0 ≡ s → slice_index ranks (shortened s (way_below ps way e)).point.0 < rank
      by None at = less
      by (Some rest) at = let lower = (down e.child.0 rest at).lower ranks are in omega (arith, lower, less)

-- ---- what they bring
module _ (ps : List Point) (own : OwnSamples) (shortcuts : List (Option Way)) (hold : ShortcutsHold ps own shortcuts) (ranks : List ℕ)
    (levels : List (ℕ × List Way)) (way : Way) (e : Edge) where
  abbrev all : ℕ → Samples
  all = samples_of ps own

  abbrev below : Way
  below = way_below ps way e

  abbrev was : Samples
  was = samples_through_all all (ways_in levels)

  pub on_added : SamplesTellTheSame (samples_through_all all (ways_in (with_ranked ranks levels (way_on ps shortcuts way e)))) (was ++ samples_through all below)
  on_added = by (shortcut_at shortcuts e.child.0) (hold e.child.0)
    where
      by : (s : Option Way) → all e.child.0 ≡ samples_by all e.child.0 s
          → SamplesTellTheSame (samples_through_all all (ways_in (with_ranked ranks levels (shortened s below)))) (was ++ samples_through all below)
      by None is = way_at_added all levels (slice_index ranks e.child.0) below
      by (Some rest) is =
          subst (λ (xs : Samples). SamplesTellTheSame (samples_through_all all (ways_in (with_ranked ranks levels (way_then below rest)))) (was ++ xs))
          (ap (repeated_samples way.paths) (all_mapped_onward rest.partners below.partners (all rest.point.0) ∙ ap (map (mapped_sample below.partners)) (sym is)))
          (way_at_added all levels (slice_index ranks rest.point.0) (way_then below rest))

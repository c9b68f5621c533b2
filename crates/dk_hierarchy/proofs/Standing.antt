-- What is merged at a point stands for all its samples.
use Rattle.std.specs.Prelude.{◌≡◌, ◌<◌, ℕ, All, List, [], length, slice_get, Option, Some, refl}
use Rattle.std.proofs.Common.{◌∙◌, arith, get_or, subst, sym}
use Rattle.std.proofs.lemmas.List.{append-nil}
use Rattle.std.proofs.lemmas.List.Elements.{All-contains, All-contains_itself, All-weaker}
use Rattle.std.proofs.lemmas.Option.{slice_get-get_or}
use Rattle.dk_base.specs.declared.values.Value.{Value}
use Rattle.dk_engine.proofs.Readings.{row_is}
use Rattle.dk_engine.specs.Reading.Levels.{Whole}
use Rattle.dk_forms.specs.Laws.{IsIn}
use Rattle.dk_instances.proofs.Fitting.{fit_of_set}
use Rattle.dk_instances.proofs.Members.{contained, is_in}
use Rattle.dk_points.specs.Table.{Point}
use Rattle.dk_samples.specs.Samples.{value_in}
use Rattle.dk_hierarchy.proofs.Descending.{by_any}
use Rattle.dk_hierarchy.proofs.Merging.{merged_stand}
use Rattle.dk_hierarchy.proofs.Telling.{Samples}
use Rattle.dk_hierarchy.specs.Descent.{IsDescent, IsWayDown}
use Rattle.dk_hierarchy.specs.Edges.{ArePartners}
use Rattle.dk_hierarchy.specs.Merging.{AreWays, IsWay, Joint, engine_at}
use Rattle.dk_hierarchy.specs.Samples.{OwnSamples, all_vars_of, own_samples_of, samples_of}
use Rattle.dk_hierarchy.specs.Shortcuts.{IsDescentBy, ShortcutsHold}
use Rattle.dk_hierarchy.specs.Standing.{AreEnginesOf, EnginesStandFor, IsMergedAt, JointStandsFor}
use Rattle.dk_hierarchy.specs.Ways.{SamplesTellTheSame, samples_through_all}
use Rattle.dk_hierarchy.specs.declared.way.Way.{Way}

-- ---- samples that tell the same
all_in : (P : List Value → Type 0) (a b : Samples) → ((x : List Value) → IsIn x a → IsIn x b) → All P b → All P a
all_in P a b to all k d l =
    let c = All-contains_itself a k d l in
    All-contains P b (get_or a k d) all (contained (get_or a k d) b (to (get_or a k d) (is_in (get_or a k d) a c.0 c.1 c.2)))

pub stands_alike : (joint : Joint) (a b : Samples) → SamplesTellTheSame a b → JointStandsFor joint b → JointStandsFor joint a
stands_alike joint a b same stands = record {
  state = λ row of vars admitted. stands.state row of vars admitted ∙ sym (fit_of_set row (row_is joint.here.grammar row of) vars a b same.samples);
  count = λ vars there. stands.count vars there ∙ sym (same.counts vars);
  agree = λ v w first second. (
    λ h. let is = (stands.agree v w first second).0 h in (is.0, all_in (λ s. value_in s v ≡ value_in s w) a b same.samples.to is.1),
    λ h. (stands.agree v w first second).1 (h.0, all_in (λ s. value_in s v ≡ value_in s w) b a same.samples.from h.1),
  );
}

-- ---- at a point
module _ (ps : List Point) (p : ℕ) (engines : List Whole) (are : AreEnginesOf ps engines) (here : Whole) (at : slice_get engines p ≡ Some here) (ways : List Way) (shortcuts : List (Option Way)) (descent : IsDescentBy ps shortcuts p ways []) where
  abbrev joint : Joint
  joint = record { here = here; engines = engines; ways = ways }

  way_is : (way : Way) → IsWayDown ps p way → IsWay joint way
  way_is way is =
      let long = are.long in
      let below = is.within in
      let within : way.point.0 < length engines = omega (arith, long, below) in
      let there = slice_get-get_or engines way.point.0 here within in
      record {
        within = within;
        grammar = are.grammar way.point.0 p (engine_at joint way) here there at;
        partners = subst (λ vs. ArePartners here.infos vs way.partners) (sym (are.variables way.point.0 (engine_at joint way) there).0)
            (subst (λ vs. ArePartners vs (all_vars_of ps way.point.0) way.partners) (sym (are.variables p here at).0) is.partners);
      }

  pub are_ways_by : AreWays joint
  are_ways_by = All-weaker (IsWayDown ps p) (IsWay joint) way_is ways descent.done

  pub merged_by : ((own : OwnSamples) → EnginesStandFor engines (own_samples_of ps own) → ShortcutsHold ps own shortcuts) → IsMergedAt ps engines p joint
  merged_by hold own stand =
      stands_alike joint (samples_of ps own p) (samples_through_all (own_samples_of ps own) ways)
      (subst (SamplesTellTheSame (samples_of ps own p)) (append-nil (samples_through_all (own_samples_of ps own) ways)) (descent.brings own (hold own stand)))
      (merged_stand joint are_ways_by (All-weaker (IsWayDown ps p) (λ way. 0 < way.paths) (λ way is. is.some) ways descent.done) (own_samples_of ps own) stand)

-- without shortcuts
module _ (ps : List Point) (p : ℕ) (engines : List Whole) (are : AreEnginesOf ps engines) (here : Whole) (at : slice_get engines p ≡ Some here) (ways : List Way) (descent : IsDescent ps p ways []) where
  pub are_ways : AreWays (record { here = here; engines = engines; ways = ways })
  are_ways = are_ways_by ps p engines are here at ways [] (by_any ps p [] ways [] descent)

  pub merged_at : IsMergedAt ps engines p (record { here = here; engines = engines; ways = ways })
  merged_at = merged_by ps p engines are here at ways [] (by_any ps p [] ways [] descent) (λ own stand q. refl)

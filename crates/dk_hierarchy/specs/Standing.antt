-- What stands for which samples.
use Rattle.std.specs.Prelude.{◌≡◌, ◌↔◌, ◌<◌, ℕ, All, IsTrue, List, [], length, slice_get, Some}
use Rattle.dk_base.specs.declared.kinds.VarId.{VarId}
use Rattle.dk_base.specs.declared.values.Value.{Value}
use Rattle.dk_classes.specs.Classes.{kind_at, var_kinds}
use Rattle.dk_engine.specs.Exact.{AreOfPoint, AreSamples, IsKeptOf}
use Rattle.dk_engine.specs.Reading.Levels.{Whole}
use Rattle.dk_instances.specs.Fits.{fit}
use Rattle.dk_points.specs.Table.{Point}
use Rattle.dk_presence.specs.Patterns.{count_of}
use Rattle.dk_samples.specs.Samples.{Agree}
use Rattle.dk_template.specs.Admitted.{admits}
use Rattle.dk_template.specs.Premises.{AreThere}
use Rattle.dk_template.specs.Templates.{IsRowOf}
use Rattle.dk_template.specs.declared.grammar.RowId.{RowId}
use Rattle.dk_hierarchy.specs.Descent.{IsDescent}
use Rattle.dk_hierarchy.specs.Merging.{AreWays, Joint, merged_agree, merged_count, merged_state}
use Rattle.dk_hierarchy.specs.Samples.{OwnSamples, all_vars_of, own_samples_of, samples_of}
use Rattle.dk_hierarchy.specs.Ways.{samples_through_all}
use Rattle.dk_hierarchy.specs.declared.way.Way.{Way}

-- The engine keeps what there is to keep of these samples of its variables.
pub record EngineStandsFor (engine : Whole) (samples : List (List Value)) : Type 0 where
  pub variables : AreOfPoint engine.infos
  pub samples_are : AreSamples engine.infos samples
  pub kept_is : IsKeptOf engine.grammar engine.infos samples engine.kept

-- Each engine stands for the samples of the point at its place.
abbrev pub EnginesStandFor : List Whole → (ℕ → List (List Value)) → Type 0
EnginesStandFor engines samples = (i : ℕ) (engine : Whole) → slice_get engines i ≡ Some engine → EngineStandsFor engine (samples i)

-- What is merged says of variables what these samples say: the state of each row that admits them, in how many samples they are
-- present together, and whether two agree.
pub record JointStandsFor (joint : Joint) (samples : List (List Value)) : Type 0 where
  pub state : (row : RowId) → IsRowOf joint.here.grammar row → (vars : List VarId) → IsTrue (admits row joint.here.infos vars)
      → merged_state joint row vars ≡ fit row vars samples
  pub count : (vars : List VarId) → AreThere joint.here.infos vars → merged_count joint vars ≡ count_of vars samples
  pub agree : (v w : VarId) → v.0 < length joint.here.infos → w.0 < length joint.here.infos
      → IsTrue (merged_agree joint v w)
      ↔ ((kind_at (var_kinds joint.here.infos) v.0 ≡ kind_at (var_kinds joint.here.infos) w.0) × Agree samples v w)

-- So do engines that stand for their points' samples, through ways with at least one path each, for what these ways bring.
abbrev pub MergedStandForWhatIsBrought : Type 0
MergedStandForWhatIsBrought =
    (joint : Joint) → AreWays joint → All (λ way. 0 < way.paths) joint.ways → (samples : ℕ → List (List Value))
    → EnginesStandFor joint.engines samples
    → JointStandsFor joint (samples_through_all samples joint.ways)

-- ---- the points of a table
-- The engines are those of the table's points in order, over their variables, all by one grammar.
pub record AreEnginesOf (ps : List Point) (engines : List Whole) : Type 0 where
  pub long : length engines ≡ length ps
  pub variables : (i : ℕ) (engine : Whole) → slice_get engines i ≡ Some engine → (engine.infos ≡ all_vars_of ps i) × AreOfPoint engine.infos
  pub grammar : (i j : ℕ) (engine other : Whole) → slice_get engines i ≡ Some engine → slice_get engines j ≡ Some other
      → engine.grammar ≡ other.grammar

-- What is merged at a point: where each engine stands for its point's own samples, it stands for all samples of the point.
abbrev pub IsMergedAt : List Point → List Whole → ℕ → Joint → Type 0
IsMergedAt ps engines p joint =
    (own : OwnSamples) → EnginesStandFor engines (own_samples_of ps own) → JointStandsFor joint (samples_of ps own p)

-- So what is merged by ways that bring all its samples does.
abbrev pub FollowedWaysStand : Type 0
FollowedWaysStand =
    (ps : List Point) (p : ℕ) (engines : List Whole) → AreEnginesOf ps engines → (here : Whole) → slice_get engines p ≡ Some here
    → (ways : List Way) → IsDescent ps p ways [] → IsMergedAt ps engines p (record { here = here; engines = engines; ways = ways })

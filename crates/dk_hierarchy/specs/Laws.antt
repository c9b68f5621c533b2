-- What the samples of a point come to.
use Rattle.std.specs.Prelude.{◌≡◌, ◌<◌, ◌≤◌, ◌^◌, ◌++◌, ℕ, false, List, length, All, flat_map, map}
use Rattle.dk_base.specs.declared.kinds.VarInfo.{VarInfo}
use Rattle.dk_derive.specs.Vars.{with_derived_vars}
use Rattle.dk_engine.specs.Exact.{AreOfPoint}
use Rattle.dk_graph.specs.Graphs.{depth_of, edges_into, has_cycle}
use Rattle.dk_instances.specs.Laws.{IsSample}
use Rattle.dk_points.specs.Laws.{IsBaseVar}
use Rattle.dk_points.specs.Links.{nodes}
use Rattle.dk_points.specs.Table.{Point}
use Rattle.dk_hierarchy.specs.Samples.{OwnSamples, all_vars_of, mapped_sample, own_samples_of, partners_of, samples_of, samples_within}

-- In a table without a cycle the samples of a point are its own, and then for each edge into it the child's samples, mapped.
abbrev pub SamplesAreOwnAndChildrens : Type 0
SamplesAreOwnAndChildrens =
    (ps : List Point) → has_cycle (nodes ps) ≡ false → (own : OwnSamples) (p : ℕ)
    → samples_of ps own p
    ≡ own_samples_of ps own p
    ++ flat_map (λ e. map (mapped_sample (partners_of ps e)) (samples_of ps own e.child.0)) (edges_into (nodes ps) p)

-- so none comes over more edges than its depth
abbrev pub DepthsSuffice : Type 0
DepthsSuffice =
    (ps : List Point) → has_cycle (nodes ps) ≡ false → (own : OwnSamples) (p n : ℕ) → depth_of (nodes ps) p ≤ n
    → samples_within n ps own p ≡ samples_of ps own p

-- each has a value for each variable of the point
abbrev pub SamplesHaveAllVariables : Type 0
SamplesHaveAllVariables =
    (ps : List Point) (own : OwnSamples) (p : ℕ) → All (λ s. length s ≡ length (all_vars_of ps p)) (samples_of ps own p)

-- Where all points' own samples are samples of their variables, all samples are.
abbrev pub SamplesAreOfVariables : Type 0
SamplesAreOfVariables =
    (ps : List Point) (own : OwnSamples) → ((p : ℕ) → All (IsSample (all_vars_of ps p)) (own_samples_of ps own p))
    → (p : ℕ) → All (IsSample (all_vars_of ps p)) (samples_of ps own p)

-- Base variables with what is derived of them can be an engine's, if they are few.
abbrev pub VariablesAreOfPoints : Type 0
VariablesAreOfPoints =
    (base : List VarInfo) → All IsBaseVar base → length (with_derived_vars base) < 2 ^ 32 → AreOfPoint (with_derived_vars base)

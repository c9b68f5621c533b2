-- What ways from a point down to others come to.
use Rattle.std.specs.Prelude.{◌≡◌, ◌<◌, ◌++◌, ℕ, false, All, List, [], ◌∷◌, flat_map, fold, length}
use Rattle.dk_base.specs.declared.kinds.VarId.{VarId}
use Rattle.dk_base.specs.declared.values.Value.{Value}
use Rattle.dk_graph.specs.Graphs.{edges_into, has_cycle}
use Rattle.dk_graph.specs.declared.nodes.Edge.{Edge}
use Rattle.dk_instances.specs.Fits.{fit}
use Rattle.dk_points.specs.Links.{nodes}
use Rattle.dk_points.specs.Table.{Point}
use Rattle.dk_template.specs.Templates.{IsRow}
use Rattle.dk_template.specs.declared.grammar.RowId.{RowId}
use Rattle.dk_hierarchy.specs.Descent.{IsDescent, first_way}
use Rattle.dk_hierarchy.specs.Samples.{OwnSamples, all_vars_of, own_samples_of, samples_of}
use Rattle.dk_hierarchy.specs.Ways.{SamplesTellTheSame, samples_through, samples_through_all, way_below, with_way}
use Rattle.dk_hierarchy.specs.declared.way.Way.{Way}

-- a row says the same of lists of samples that tell the same
abbrev pub SameSamplesSayTheSame : Type 0
SameSamplesSayTheSame =
    (first second : List (List Value)) → SamplesTellTheSame first second
    → (row : RowId) → IsRow row → (vars : List VarId) → fit row vars first ≡ fit row vars second

-- of all samples: the own ones of the lower point, and those that come on by the edges into it
abbrev pub WaysGoOn : Type 0
WaysGoOn =
    (ps : List Point) → has_cycle (nodes ps) ≡ false → (own : OwnSamples) (way : Way)
    → SamplesTellTheSame (samples_through (samples_of ps own) way)
    (samples_through (own_samples_of ps own) way
    ++ flat_map (λ e. samples_through (samples_of ps own) (way_below ps way e)) (edges_into (nodes ps) way.point.0))

-- a way more
abbrev pub EqualWaysAreOne : Type 0
EqualWaysAreOne =
    (samples : ℕ → List (List Value)) (ways : List Way) (way : Way)
    → SamplesTellTheSame (samples_through_all samples (with_way ways way)) (samples_through_all samples ways ++ samples_through samples way)

-- ---- going down
-- it begins with the point itself
abbrev pub DescentsBegin : Type 0
DescentsBegin =
    (ps : List Point) → has_cycle (nodes ps) ≡ false → (p : ℕ) → p < length ps
    → IsDescent ps p [] (first_way p (length (all_vars_of ps p)) ∷ [])

-- One of the ways that are left is done, and those that go on from it are left. It may be any of them; whoever takes the one to the
-- point of the greatest rank leaves each point once all ways to it are known.
abbrev pub DescentsGoOn : Type 0
DescentsGoOn =
    (ps : List Point) → has_cycle (nodes ps) ≡ false → (p : ℕ) (ways before after : List Way)
    → (way : Way) → All (λ (e : Edge). (e.child.0 < length ps) × (e.parent.0 ≡ way.point.0)) (edges_into (nodes ps) way.point.0)
    → IsDescent ps p ways (before ++ way ∷ after)
    → IsDescent ps p (ways ++ way ∷ [])
    (fold (λ left e. with_way left (way_below ps way e)) (before ++ after) (edges_into (nodes ps) way.point.0))

-- it ends where no way is to be followed: then the own samples that the ways bring tell the same as all samples of the point
abbrev pub DescentsEnd : Type 0
DescentsEnd =
    (ps : List Point) (p : ℕ) (ways : List Way) → IsDescent ps p ways [] → (own : OwnSamples)
    → SamplesTellTheSame (samples_of ps own p) (samples_through_all (own_samples_of ps own) ways)

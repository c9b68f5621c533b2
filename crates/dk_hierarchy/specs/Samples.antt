-- The samples of a point: its own ones and, through the edges into it, those of its children.
use Rattle.std.specs.Prelude.{ℕ, zero, suc, List, [], ◌++◌, flat_map, map, slice_index_or, Option, option_map}
use Rattle.std.specs.List.{enumerate_from}
use Rattle.std.specs.Option.{option_map_or}
use Rattle.dk_base.specs.Shapes.{var}
use Rattle.dk_base.specs.declared.kinds.VarId.{VarId}
use Rattle.dk_base.specs.declared.values.Value.{Value}
use Rattle.dk_base.specs.declared.values.Value.TheVariants as value
pub use Rattle.dk_derive.specs.Laws.{all_vars_of}
use Rattle.dk_derive.specs.Partners.{partner_with_derived}
use Rattle.dk_derive.specs.Values.{values_by_form}
use Rattle.dk_graph.specs.Graphs.{depth_of, edges_into}
use Rattle.dk_graph.specs.declared.nodes.Edge.{Edge}
use Rattle.dk_points.specs.Links.{nodes}
use Rattle.dk_points.specs.Table.{Point}
use Rattle.dk_samples.specs.Samples.{value_in}

-- ---- through an edge

-- the partner of each variable of the edge's parent, in their order
unfoldable pub partners_of : List Point → Edge → List (Option VarId)
partners_of ps e =
    map (λ w. option_map var (partner_with_derived ps e (all_vars_of ps e.parent.0) (all_vars_of ps e.child.0) w.0))
    (enumerate_from 0 (all_vars_of ps e.parent.0))

-- A child's sample as one of the parent: each variable has the value of its partner, and is missing without one.
abbrev pub mapped_sample : List (Option VarId) → List Value → List Value
mapped_sample partners sample = map (λ partner. option_map_or (value_in sample) partner value.Missing) partners

-- ---- of a point

-- The own samples of all points stand in one list, each sample as the values of the point's base variables.
abbrev pub OwnSamples : Type 0
OwnSamples = List (List (List Value))

-- the point's own samples, with derived values
abbrev pub own_samples_of : List Point → OwnSamples → ℕ → List (List Value)
own_samples_of ps own p = map (values_by_form (all_vars_of ps p)) (slice_index_or own p [])

-- The samples of a point that come to it over at most n edges: its own, and then for each edge into it those of the child, mapped.
abbrev pub samples_within : ℕ → List Point → OwnSamples → ℕ → List (List Value)
samples_within zero ps own p = own_samples_of ps own p
samples_within (suc n) ps own p =
    own_samples_of ps own p
    ++ flat_map (λ e. map (mapped_sample (partners_of ps e)) (samples_within n ps own e.child.0)) (edges_into (nodes ps) p)

-- The samples of a point. None comes over more edges than its depth, the number of edges on the longest path that ends in it.
unfoldable pub samples_of : List Point → OwnSamples → ℕ → List (List Value)
samples_of ps own p = samples_within (depth_of (nodes ps) p) ps own p

-- What ways from a point down to others bring: the samples of the points that they lead to.
use Rattle.std.specs.Prelude.{◌≡◌, ◌==◌, ◌&&◌, ◌+◌, ◌<◌, ℕ, zero, suc, Bool, true, false, List, [], ◌∷◌, ◌++◌, flat_map, map, Option, Some, None, option_and_then, if◌then◌else◌}
use Rattle.std.specs.Cmp.Lexicographic.{pointwise}
use Rattle.dk_base.specs.declared.kinds.VarId.{VarId}
use Rattle.dk_base.specs.declared.values.Value.{Value}
use Rattle.dk_forms.specs.Laws.{SameSet}
use Rattle.dk_graph.specs.declared.nodes.Edge.{Edge}
use Rattle.dk_points.specs.Table.{Point}
use Rattle.dk_presence.specs.Patterns.{capped, count_of}
use Rattle.dk_hierarchy.specs.Edges.{partner_at}
use Rattle.dk_hierarchy.specs.Samples.{mapped_sample, partners_of}
use Rattle.dk_hierarchy.specs.declared.way.Way.{Way}

-- samples, so many times over
unfoldable pub repeated_samples : ℕ → List (List Value) → List (List Value)
repeated_samples zero samples = []
repeated_samples (suc n) samples = samples ++ repeated_samples n samples

-- The samples that a way brings, where each point has these: those of its lower point, mapped, once for each path.
abbrev pub samples_through : (ℕ → List (List Value)) → Way → List (List Value)
samples_through samples way = repeated_samples way.paths (map (mapped_sample way.partners) (samples way.point.0))

-- the samples that ways bring, one way after another
abbrev pub samples_through_all : (ℕ → List (List Value)) → List Way → List (List Value)
samples_through_all samples ways = flat_map (samples_through samples) ways

-- The same samples stand in both lists, and variables are present together in as many, up to 2^64 - 1. So rows, counts and agreement
-- can't tell the two apart.
pub record SamplesTellTheSame (first second : List (List Value)) : Type 0 where
  pub samples : SameSet first second
  pub counts : (vars : List VarId) → count_of vars first ≡ count_of vars second

-- ---- down an edge
-- of partners at an edge's parent, the partners at its child
abbrev pub partners_below : List (Option VarId) → List (Option VarId) → List (Option VarId)
partners_below below partners = map (option_and_then (partner_at below)) partners

-- the way, and then down an edge into its lower point
abbrev pub way_below : List Point → Way → Edge → Way
way_below ps way e = record { point = e.child; partners = partners_below (partners_of ps e) way.partners; paths = way.paths }

-- ---- ways that are one
abbrev pub same_partner : Option VarId → Option VarId → Bool
same_partner None None = true
same_partner (Some v) (Some w) = v.0 == w.0
same_partner _ _ = false

-- two ways lead to one point with the same partners
abbrev pub same_way : Way → Way → Bool
same_way a b = a.point.0 == b.point.0 && pointwise same_partner a.partners b.partners

-- the way with more paths
abbrev pub with_paths : Way → ℕ → Way
with_paths way n = record way { paths = capped (way.paths + n) }

-- The ways and one more: where one of them leads to the same point with the same partners, that one has its paths too.
abbrev pub with_way : List Way → Way → List Way
with_way [] way = way ∷ []
with_way (other ∷ ways) way = if same_way other way then with_paths other way.paths ∷ ways else other ∷ with_way ways way

-- each partner is one of the first n variables
abbrev pub AreOf : ℕ → List (Option VarId) → Type 0
AreOf n partners = (v w : VarId) → partner_at partners v ≡ Some w → w.0 < n

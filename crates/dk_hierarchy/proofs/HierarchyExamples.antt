-- Small hierarchies, by computing: what the ways down from a point bring against the samples of the point.
use Rattle.std.specs.Prelude.{◌≡◌, ◌==◌, ◌&&◌, ◌+◌, ℕ, zero, suc, Bool, true, false, pos, negsuc, List, [], ◌∷◌, ◌++◌, count_by, filter, flat_map, length, map, refl, reverse, slice_index, Some, None}
use Rattle.std.specs.Cmp.Lexicographic.{pointwise}
use Rattle.std.specs.List.{enumerate_from, list_all}
use Rattle.dk_base.specs.Values.SameValues.{same_value}
use Rattle.dk_base.specs.declared.kinds.Kind.TheVariants as kind
use Rattle.dk_base.specs.declared.values.Value.{Value}
use Rattle.dk_base.specs.declared.values.Value.TheVariants as value
use Rattle.dk_decl.specs.declared.decls.ParentVar.{ParentVar}
use Rattle.dk_decl.specs.declared.decls.VarDecl.{VarDecl}
use Rattle.dk_derive.specs.Partners.{partner_with_derived}
use Rattle.dk_derive.specs.Vars.{with_derived_vars}
use Rattle.dk_graph.specs.Graphs.{depth_of, edges, edges_into, links}
use Rattle.dk_graph.specs.Names.{place_of}
use Rattle.dk_points.specs.Links.{kept_edges, nodes}
use Rattle.dk_points.specs.Names.{method_len, role_of}
use Rattle.dk_points.specs.Partners.{partner_of}
use Rattle.dk_points.specs.Table.{Point, declared_point}
use Rattle.dk_points.specs.Vars.{entry_before, orig_vars, vars_of}
use Rattle.dk_hierarchy.specs.Descent.{first_way, with_way_at, with_ways_below}
use Rattle.dk_hierarchy.specs.Samples.{OwnSamples, all_vars_of, own_samples_of, partners_of, samples_of}
use Rattle.dk_hierarchy.specs.Ways.{repeated_samples, samples_through_all}
use Rattle.dk_hierarchy.specs.declared.way.Way.{Way}

-- ---- tables
-- which variable of a child is the partner of which of a parent, and an edge to the parent at a place with such lines
abbrev Lines : Type 0
Lines = List (ℕ × ℕ)

abbrev To : Type 0
To = ℕ × Lines

abbrev x : ℕ
x = 120

abbrev y : ℕ
y = 121

abbrev straight : Lines
straight = (x, x) ∷ (y, y) ∷ []

abbrev crossed : Lines
crossed = (x, y) ∷ (y, x) ∷ []

abbrev only_x : Lines
only_x = (x, x) ∷ []

-- one partner for both
abbrev x_for_both : Lines
x_for_both = (x, x) ∷ (x, y) ∷ []

abbrev x_for_y : Lines
x_for_y = (x, y) ∷ []

abbrev no_lines : Lines
no_lines = []

abbrev name_at : ℕ → List ℕ
name_at i = 112 ∷ (48 + i) ∷ []

abbrev parents_of : ℕ → List (ℕ × To) → List ParentVar
parents_of v tos = flat_map (λ to. map (λ l. record { edge = to.0; name = l.1 ∷ [] }) (filter (λ l. l.0 == v) to.1.1)) tos

abbrev int : ℕ → List (ℕ × To) → VarDecl
int v tos = record {
  name = v ∷ [];
  kind = Some kind.Int;
  compar = record { elem = negsuc 0; index = negsuc 0 };
  constant = None;
  constant_line = false;
  parents = parents_of v tos;
}

abbrev point_at : ℕ → List (ℕ × To) → Point
point_at i tos = declared_point (record { name = name_at i; edges = map (λ to. record { parent = name_at to.1.0; id = to.0 }) tos; vars = int x tos ∷ int y tos ∷ [] })

-- the points, each with its edges to parents
abbrev table : List (List To) → List Point
table points = map (λ p. point_at p.0 (enumerate_from 0 p.1)) (enumerate_from 0 points)

-- each point has two own samples, in one of which a variable is missing
abbrev own_at : ℕ → List (List Value)
own_at i = (value.Int (pos i) ∷ value.Int (pos (i + 10)) ∷ []) ∷ (value.Missing ∷ value.Int (pos i) ∷ []) ∷ []

abbrev own_of : List (List To) → OwnSamples
own_of points = map (λ p. own_at p.0) (enumerate_from 0 points)

-- ---- going down
abbrev Going : Type 0
Going = List Way × List (ℕ × List Way)

abbrev from_level : List Point → List ℕ → List Way → List (ℕ × List Way) → ℕ → List Way → Going
from_level ps ranks ways greatest_last rank [] = (ways, reverse greatest_last)
from_level ps ranks ways greatest_last rank (way ∷ others) = (ways ++ way ∷ [], with_ways_below ps ranks (reverse greatest_last) way ++ (rank, reverse others) ∷ [])

abbrev from_levels : List Point → List ℕ → List Way → List (ℕ × List Way) → Going
from_levels ps ranks ways [] = (ways, [])
from_levels ps ranks ways (level ∷ greatest_last) = from_level ps ranks ways greatest_last level.0 (reverse level.1)

abbrev going : List Point → List ℕ → ℕ → Going → Going
going ps ranks zero g = g
going ps ranks (suc n) g = going ps ranks n (from_levels ps ranks g.0 (reverse g.1))

-- depths are ranks
abbrev ways_of : List Point → ℕ → ℕ → Going
ways_of ps steps p =
    let ranks = map (λ q. depth_of (nodes ps) q.0) (enumerate_from 0 ps) in
    going ps ranks steps ([], with_way_at [] (slice_index ranks p) (first_way p (length (all_vars_of ps p))))

-- ---- the same samples, each as often
abbrev same_sample : List Value → List Value → Bool
same_sample s t = pointwise same_value s t

abbrev same_bag : List (List Value) → List (List Value) → Bool
same_bag a b = length a == length b && list_all (λ s. count_by (same_sample s) a == count_by (same_sample s) b) (a ++ b)

-- at a point the ways bring the samples of the point, and none is left to be followed
abbrev is_brought : List (List To) → ℕ → Bool
is_brought points p =
    let ps = table points in
    let g = ways_of ps 30 p in
    length g.1 == 0 && same_bag (samples_of ps (own_of points) p) (samples_through_all (own_samples_of ps (own_of points)) g.0)

-- ---- hierarchies, and a point of each
abbrev hierarchies : List (List (List To) × ℕ)
hierarchies =
    -- a point alone; a child and its parent, in both orders; and at the child
    (([] ∷ []), 0)
    ∷ ((((1, straight) ∷ []) ∷ [] ∷ []), 1)
    ∷ (([] ∷ ((0, straight) ∷ []) ∷ []), 0)
    ∷ ((((1, straight) ∷ []) ∷ [] ∷ []), 0)
    -- with other lines
    ∷ ((((1, crossed) ∷ []) ∷ [] ∷ []), 1)
    ∷ ((((1, only_x) ∷ []) ∷ [] ∷ []), 1)
    ∷ ((((1, x_for_both) ∷ []) ∷ [] ∷ []), 1)
    ∷ ((((1, x_for_y) ∷ []) ∷ [] ∷ []), 1)
    ∷ ((((1, no_lines) ∷ []) ∷ [] ∷ []), 1)
    -- two edges, with the same partners and with others
    ∷ ((((1, straight) ∷ (1, straight) ∷ []) ∷ [] ∷ []), 1)
    ∷ ((((1, straight) ∷ (1, crossed) ∷ []) ∷ [] ∷ []), 1)
    -- two children, and three
    ∷ ((((2, straight) ∷ []) ∷ ((2, only_x) ∷ []) ∷ [] ∷ []), 2)
    ∷ ((((3, straight) ∷ []) ∷ ((3, crossed) ∷ []) ∷ ((3, x_for_both) ∷ []) ∷ [] ∷ []), 3)
    -- a chain, and one that loses a variable on its way
    ∷ ((((1, straight) ∷ []) ∷ ((2, straight) ∷ []) ∷ [] ∷ []), 2)
    ∷ ((((1, only_x) ∷ []) ∷ ((2, crossed) ∷ []) ∷ [] ∷ []), 2)
    -- chains of double edges
    ∷ ((((1, straight) ∷ (1, straight) ∷ []) ∷ ((2, straight) ∷ (2, straight) ∷ []) ∷ [] ∷ []), 2)
    ∷ ((((1, straight) ∷ (1, crossed) ∷ []) ∷ ((2, straight) ∷ (2, crossed) ∷ []) ∷ [] ∷ []), 2)
    -- two ways to one point: equal, and not
    ∷ ((((1, straight) ∷ (2, straight) ∷ []) ∷ ((3, straight) ∷ []) ∷ ((3, straight) ∷ []) ∷ [] ∷ []), 3)
    ∷ ((((1, crossed) ∷ (2, only_x) ∷ []) ∷ ((3, crossed) ∷ []) ∷ ((3, straight) ∷ []) ∷ [] ∷ []), 3)
    -- an edge beside a longer way, a point in the middle, and one that is not led to
    ∷ ((((1, straight) ∷ (2, straight) ∷ []) ∷ ((2, straight) ∷ []) ∷ [] ∷ []), 2)
    ∷ ((((1, straight) ∷ []) ∷ ((2, straight) ∷ []) ∷ [] ∷ []), 1)
    ∷ ((((2, straight) ∷ []) ∷ [] ∷ [] ∷ []), 1)
    ∷ []

all_are_brought : list_all (λ h. is_brought h.0 h.1) hierarchies ≡ true
unfolding samples_of partners_of partner_with_derived with_derived_vars partner_of vars_of orig_vars entry_before role_of method_len place_of nodes kept_edges edges links edges_into depth_of repeated_samples
all_are_brought = refl

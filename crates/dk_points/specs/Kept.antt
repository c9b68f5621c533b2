-- What the table keeps beside the graph of its points.
use Rattle.std.specs.Prelude.{◌≡◌, ℕ, ◌≤◌, ◌++◌, false, true, List, length, map, Option, Some, None, Result, Ok, Err, take, slice_get}
use Rattle.std.specs.Option.{option_map}
use Rattle.dk_base.specs.declared.faults.BlockFault.{BlockFault}
use Rattle.dk_base.specs.declared.faults.BlockFault.TheVariants.{NoMemory, Refused}
use Rattle.dk_decl.specs.declared.decls.PointDecl.{PointDecl}
use Rattle.dk_graph.specs.Graphs.{has_cycle, place_in}
use Rattle.dk_graph.specs.declared.nodes.Node.{Node}
use Rattle.dk_points.specs.Declaring.{declared_new, has_many_points, has_many_vars}
use Rattle.dk_points.specs.Links.{kept_edges, nodes}
use Rattle.dk_points.specs.Names.{role_of}
use Rattle.dk_points.specs.Bare.{have_bare_names}
use Rattle.dk_points.specs.Table.{Point, added_points}
use Rattle.dk_points.specs.Vars.{base_vars, entry_before}
use Rattle.dk_points.specs.declared.places.Own.{Own}
use Rattle.dk_points.specs.declared.places.KeptPoint.{KeptPoint}

abbrev pub point_of_place : KeptPoint → Point
point_of_place l = record { decl = l.own.value.decl; is_implicit = l.is_implicit }

-- the points
unfoldable pub points_of_places : List KeptPoint → List Point
points_of_places places = map point_of_place places

-- what is kept of a declaration behind these points
pub record IsOwnBehind (ps : List Point) (o : Own) : Type 0 where
  pub role : role_of o.decl.name ≡ o.role
  pub vars : base_vars ps o.decl ≡ o.vars
  pub entry : entry_before ps o.decl.name ≡ option_map place_in o.entry
  pub bare : have_bare_names o.decl.vars ≡ o.is_bare

-- and of the point itself
pub record IsPlaceBehind (ps : List Point) (l : KeptPoint) : Type 0 where
  pub own : IsOwnBehind ps l.own.value
  pub kept : map (λ e. e.0) (kept_edges ps (point_of_place l)) ≡ l.kept
  pub few_vars : has_many_vars ps l.own.value.decl ≡ false

pub record IsKept (graph : List Node) (places : List KeptPoint) : Type 0 where
  pub joined : graph ≡ nodes (points_of_places places)
  pub places_are : (p : ℕ) (l : KeptPoint) → slice_get places p ≡ Some l → IsPlaceBehind (take p (points_of_places places)) l
  pub few : length places ≤ 65535

-- these points, whose edges have no cycle; or none, since they have one
abbrev pub TableGrows : Option (List Point) → List Point → Type 0
TableGrows (Some t) ps = (t ≡ ps) × (has_cycle (nodes ps) ≡ false)
TableGrows None ps = has_cycle (nodes ps) ≡ true

-- what a new declaration's own parts are, or why it is refused before its edges are looked at
abbrev pub Judges : Result Own BlockFault → ℕ → List Point → PointDecl → Type 0
Judges (Ok o) line ps d =
    (o.decl ≡ d) × IsOwnBehind ps o × (has_many_points (ps ++ added_points ps d) ≡ false) × (has_many_vars ps d ≡ false)
Judges (Err (Refused l why)) line ps d = (l ≡ line) × (declared_new ps d ≡ Err why)
Judges (Err NoMemory) line ps d = Unit {0}

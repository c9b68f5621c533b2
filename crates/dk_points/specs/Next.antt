-- What one more point brings.
use Rattle.std.specs.Prelude.{◌≡◌, List}
use Rattle.dk_points.specs.Kept.{IsPlaceBehind, point_of_place}
use Rattle.dk_points.specs.Links.{node_of}
use Rattle.dk_points.specs.Table.{Point}
use Rattle.dk_points.specs.declared.growing.Added.{Added}

-- it is a point that stands behind these: its node in the graph, and its place in the table
pub record IsNext (ps : List Point) (a : Added) : Type 0 where
  pub node : a.node ≡ node_of ps (point_of_place a.place)
  pub place : IsPlaceBehind ps a.place

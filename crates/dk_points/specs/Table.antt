-- The table of points.
use Rattle.std.specs.Prelude.{ℕ, Bool, true, false, ◌&&◌, List, [], ◌∷◌, map, is_none, if◌then◌else◌, Option, Some, None, option_and_then, slice_get}
use Rattle.dk_decl.specs.declared.decls.PointDecl.{PointDecl}
use Rattle.dk_graph.specs.Names.{place_of}
use Rattle.dk_points.specs.Names.{combined_name, is_subexit, role_of}

-- A point is one that a block declares, or the implicit combined exit that the declaration of a subexit makes.
pub record Point : Type 0 where
  pub decl : PointDecl
  pub is_implicit : Bool

abbrev pub declared_point : PointDecl → Point
declared_point d = record { decl = d; is_implicit = false }

abbrev pub implicit_exit : PointDecl → Point
implicit_exit d = record { decl = d; is_implicit = true }

abbrev pub name_of : Point → List ℕ
name_of p = if p.is_implicit then combined_name p.decl.name else p.decl.name

abbrev pub names : List Point → List (List ℕ)
names ps = map name_of ps

-- the point of this name
abbrev pub point_of : List Point → List ℕ → Option Point
point_of ps name = option_and_then (slice_get ps) (place_of (names ps) name)

-- whether the declaration makes an implicit exit: it is a subexit's, and the table has no combined exit of its method
abbrev pub makes_exit : List Point → PointDecl → Bool
makes_exit ps d = is_subexit (role_of d.name) && is_none (place_of (names ps) (combined_name d.name))

-- the points that the declaration of a new name adds; an implicit exit stands just before its subexit
abbrev pub added_points : List Point → PointDecl → List Point
added_points ps d = if makes_exit ps d then implicit_exit d ∷ declared_point d ∷ [] else declared_point d ∷ []

-- the declaration of the point at this place; an implicit exit has none
abbrev pub decl_if_declared : Point → Option PointDecl
decl_if_declared p = if p.is_implicit then None else Some p.decl

abbrev pub decl_at : List Point → ℕ → Option PointDecl
decl_at ps i = option_and_then decl_if_declared (slice_get ps i)

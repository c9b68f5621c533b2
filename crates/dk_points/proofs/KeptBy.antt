-- The declared edges that a point keeps, by its combined exit and what that has.
use Rattle.std.proofs.Common.{◌≡◌, ℕ, Bool, true, false, not, ◌||◌, List, [], filter, Some, None, if◌then◌else◌, refl, ap}
use Rattle.std.proofs.lemmas.List.Elements.{filter_agree}
use Rattle.std.specs.List.{enumerate_from, list_any}
use Rattle.std.specs.Option.{option_map_or}
use Rattle.dk_decl.specs.declared.decls.PointDecl.{PointDecl}
use Rattle.dk_points.specs.KeptEdges.{kept_by}
use Rattle.dk_points.specs.Links.{edges_of_implicit, is_to, kept_edges, same_edge}
use Rattle.dk_points.specs.Names.{combined_name, combined_of, is_subexit, role_of}
use Rattle.dk_points.specs.Table.{Point, declared_point, implicit_exit}

-- a declared point
pub kept-declared : (ps : List Point) (d : PointDecl) → kept_by (combined_of d.name) (option_map_or (edges_of_implicit ps) (combined_of d.name) []) d.edges ≡ kept_edges ps (declared_point d)
unfolding kept_edges
kept-declared ps d = go (is_subexit (role_of d.name))
  where
    name : List ℕ
    name = combined_name d.name

    go : (b : Bool) → kept_by (if b then Some name else None) (option_map_or (edges_of_implicit ps) (if b then Some name else None) []) d.edges
        ≡ filter (λ e. not (if b then is_to name e.1 || list_any (same_edge e.1) (edges_of_implicit ps name) else false)) (enumerate_from 0 d.edges)
    go true = refl
    go false = refl

or_false : (b : Bool) → (b || false) ≡ b
or_false true = refl
or_false false = refl

-- an implicit exit
pub kept-implicit : (ps : List Point) (d : PointDecl) → kept_by (Some (combined_name d.name)) [] d.edges ≡ kept_edges ps (implicit_exit d)
unfolding kept_edges
kept-implicit ps d = filter_agree (λ e. not (is_to (combined_name d.name) e.1 || false)) (λ e. not (is_to (combined_name d.name) e.1)) (λ e. ap not (or_false (is_to (combined_name d.name) e.1))) (enumerate_from 0 d.edges)

-- Small examples, computed from the definitions.
use Rattle.std.proofs.Common.{◌≡◌, ℕ, false, List, [], ◌∷◌, Option, None, Some, Ok, Err, codes, map, refl, negsuc}
use Rattle.dk_base.specs.declared.kinds.Kind.{Kind}
use Rattle.dk_base.specs.declared.kinds.Kind.TheVariants as kind
use Rattle.dk_base.specs.declared.why.Why.TheVariants.{CyclicParents, DuplicatePoint}
use Rattle.dk_decl.specs.declared.decls.EdgeDecl.{EdgeDecl}
use Rattle.dk_decl.specs.declared.decls.ParentVar.{ParentVar}
use Rattle.dk_decl.specs.declared.decls.PointDecl.{PointDecl}
use Rattle.dk_decl.specs.declared.decls.VarDecl.{VarDecl}
use Rattle.dk_graph.specs.Graphs.{depth_of, edges, edges_into, has_cycle, links}
use Rattle.dk_graph.specs.Names.{place_of}
use Rattle.dk_graph.specs.declared.nodes.Edge.{Edge}
use Rattle.dk_points.specs.Declaring.{declared, has_many_vars}
use Rattle.dk_points.specs.Links.{kept_edges, nodes}
use Rattle.dk_points.specs.Names.{method_len, role_of}
use Rattle.dk_points.specs.Partners.{partner_of}
use Rattle.dk_points.specs.Sameness.{same_decl}
use Rattle.dk_points.specs.Table.{Point, added_points, declared_point, implicit_exit, names}
use Rattle.dk_points.specs.Vars.{entry_before, entry_of, orig_vars, vars_of}
use Rattle.dk_points.specs.declared.declared.Declared.TheVariants.{New, Same}
use Rattle.dk_points.specs.declared.roles.Role.TheVariants.{Entry, Combined, Subexit, Plain}

abbrev var : Option Kind → List ℕ → List ParentVar → VarDecl
var k name ps = record { name = name; kind = k; compar = record { elem = negsuc 0; index = negsuc 0 }; constant = None; constant_line = false; parents = ps }

abbrev int : List ℕ → VarDecl
int name = var (Some kind.Int) name []

abbrev point : List ℕ → List EdgeDecl → List VarDecl → PointDecl
point name es vs = record { name = name; edges = es; vars = vs }

abbrev edge : ℕ → ℕ → ℕ → Edge
edge i j n = record { child = record { 0 = i }; parent = record { 0 = j }; number = n }

roles : map role_of (codes "A.m():::ENTER" ∷ codes "m:::x:::EXIT" ∷ codes "m:::EXIT28" ∷ codes "m:::EXIT2a" ∷ codes "C:::OBJECT" ∷ codes "EXIT" ∷ codes ":::EXIT1" ∷ [])
    ≡ Entry ∷ Combined ∷ Subexit ∷ Plain ∷ Plain ∷ Plain ∷ Subexit ∷ []
unfolding role_of method_len
roles = refl

-- an entry and a subexit of one method
abbrev entry : PointDecl
entry = point (codes "M:::ENTER") [] (int (codes "x") ∷ [])

abbrev exit : PointDecl
exit = point (codes "M:::EXIT1") [] (int (codes "x") ∷ [])

abbrev calls : List Point
calls = declared_point entry ∷ implicit_exit exit ∷ declared_point exit ∷ []

subexit_adds_its_combined_exit : added_points (declared_point entry ∷ []) exit ≡ implicit_exit exit ∷ declared_point exit ∷ []
unfolding role_of method_len place_of
subexit_adds_its_combined_exit = refl

in_order : names calls ≡ codes "M:::ENTER" ∷ codes "M:::EXIT" ∷ codes "M:::EXIT1" ∷ []
unfolding method_len
in_order = refl

new_exit : declared (declared_point entry ∷ []) exit ≡ Ok (calls, New (record { 0 = 2 }))
unfolding declared has_many_vars role_of method_len place_of orig_vars entry_before has_cycle depth_of edges links nodes kept_edges
new_exit = refl

vars_of_exit : map (λ v. v.name) (vars_of calls 1) ≡ codes "x" ∷ codes "orig(x)" ∷ []
unfolding vars_of orig_vars entry_before role_of method_len place_of
vars_of_exit = refl

entry_of_exit : entry_of calls 2 ≡ Some 0
unfolding entry_of entry_before role_of method_len place_of
entry_of_exit = refl

edge_to_combined : edges_into (nodes calls) 1 ≡ edge 2 1 0 ∷ []
unfolding edges_into edges links nodes kept_edges role_of method_len place_of
edge_to_combined = refl

partner_of_orig : partner_of calls (edge 2 1 0) 1 ≡ Some 1
unfolding partner_of kept_edges vars_of orig_vars entry_before role_of method_len place_of
partner_of_orig = refl

-- an implicit exit is not declared again
combined_again : declared calls (point (codes "M:::EXIT") [] (int (codes "x") ∷ [])) ≡ Err DuplicatePoint
unfolding declared role_of method_len place_of
combined_again = refl

-- the same declaration changes nothing
exit_again : declared calls exit ≡ Ok (calls, Same (record { 0 = 2 }))
unfolding declared method_len place_of same_decl
exit_again = refl

other_kind : declared calls (point (codes "M:::EXIT1") [] (var (Some kind.Bool) (codes "x") [] ∷ [])) ≡ Err DuplicatePoint
unfolding declared method_len place_of same_decl
other_kind = refl

-- two edges to one parent, which is declared later
abbrev child : PointDecl
child = point (codes "C") (record { parent = codes "Q"; id = 1 } ∷ record { parent = codes "Q"; id = 2 } ∷ [])
    (var (Some kind.Int) (codes "a") (record { edge = 0; name = codes "n" } ∷ []) ∷ var (Some kind.Int) (codes "b") (record { edge = 1; name = codes "n" } ∷ []) ∷ [])

abbrev two_edges : List Point
two_edges = declared_point child ∷ declared_point (point (codes "Q") [] (int (codes "n") ∷ [])) ∷ []

both_edges : edges_into (nodes two_edges) 1 ≡ edge 0 1 0 ∷ edge 0 1 1 ∷ []
unfolding edges_into edges links nodes kept_edges role_of method_len place_of
both_edges = refl

second_partner : partner_of two_edges (edge 0 1 1) 0 ≡ Some 1
unfolding partner_of kept_edges vars_of orig_vars entry_before role_of method_len place_of
second_partner = refl

depth_of_parent : depth_of (nodes two_edges) 1 ≡ 1
unfolding depth_of edges links nodes kept_edges role_of method_len place_of
depth_of_parent = refl

own_parent : declared two_edges (point (codes "R") (record { parent = codes "R"; id = 1 } ∷ []) []) ≡ Err CyclicParents
unfolding declared has_many_vars role_of method_len place_of orig_vars entry_before has_cycle depth_of edges links nodes kept_edges
own_parent = refl

-- a subexit keeps only the edges that its implicit exit has not: of the first one those to its own combined exit and to O are dropped
abbrev with_edges : List ℕ → PointDecl
with_edges name = point name (record { parent = codes "M:::EXIT"; id = 1 } ∷ record { parent = codes "O"; id = 2 } ∷ record { parent = codes "P"; id = 3 } ∷ []) []

kept_of_second : kept_edges (implicit_exit (point (codes "M:::EXIT1") (record { parent = codes "O"; id = 2 } ∷ record { parent = codes "P"; id = 4 } ∷ []) []) ∷ []) (declared_point (with_edges (codes "M:::EXIT2")))
    ≡ (2, record { parent = codes "P"; id = 3 }) ∷ []
unfolding kept_edges role_of method_len place_of
kept_of_second = refl

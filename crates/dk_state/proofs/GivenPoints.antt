-- Declarations that were read, and are ones that a block can give.
use Rattle.std.specs.Prelude.{◌≡◌, ◌∷◌, ◌==◌, ◌-◌, ◌&&◌, ◌||◌, [], ℕ, Bool, true, All, IsTrue, List, length, map, nat_lt, not, slice_index_or}
use Rattle.std.specs.List.{list_all}
use Rattle.std.specs.Str.{bytes_eq}
use Rattle.std.proofs.lemmas.Bool.{and_parts}
use Rattle.std.proofs.lemmas.List.Elements.{All-cons, All-head, All-nil, All-tail}
use Rattle.dk_decl.specs.declared.decls.EdgeDecl.{EdgeDecl}
use Rattle.dk_decl.specs.declared.decls.ParentVar.{ParentVar}
use Rattle.dk_decl.specs.declared.decls.PointDecl.{PointDecl}
use Rattle.dk_decl.specs.declared.decls.VarDecl.{VarDecl}
use Rattle.dk_state.specs.Fitting.{FitsEdge, FitsMapped, FitsPoint, FitsVar}
use Rattle.dk_state.specs.Given.{CanBeGiven, all_new, edge_key, is_given_constant, is_given_counterpart, is_given_edge, is_given_point, is_given_var, is_name}
use Rattle.dk_state.specs.Reading.{HasNone, ends_line}
use Rattle.dk_state.specs.Within.{IsEdgeWithin, IsMappedWithin, IsPointWithin, IsVarWithin}
use Rattle.dk_write.specs.Names.{has_none}

-- what follows of each that passes the test
each_passed : {X : Type 0} (test : X → Bool) (P Q : X → Type 0) → ((x : X) → test x ≡ true → P x → Q x) → (xs : List X) → list_all test xs ≡ true → All P xs → All Q xs
each_passed test P Q each [] passed all = All-nil Q
each_passed test P Q each (x ∷ xs) passed all =
    let both = and_parts (test x) (list_all test xs) passed in
    All-cons Q x xs (each x both.0 (All-head P x xs all)) (each_passed test P Q each xs both.1 (All-tail P x xs all))

name_in_line : (name : List ℕ) → is_name name ≡ true → HasNone ends_line name
name_in_line name h =
    let first = and_parts (nat_lt 0 (length name)) (not (slice_index_or name 0 0 == 9) && (not (slice_index_or name (length name - 1) 0 == 9) && has_none 10 name)) h in
    let second = and_parts (not (slice_index_or name 0 0 == 9)) (not (slice_index_or name (length name - 1) 0 == 9) && has_none 10 name) first.1 in
    (and_parts (not (slice_index_or name (length name - 1) 0 == 9)) (has_none 10 name) second.1).1

edge_fits : (e : EdgeDecl) → is_given_edge e ≡ true → IsEdgeWithin e → FitsEdge e
edge_fits e h within = record { id = within; parent = name_in_line e.parent (and_parts (is_name e.parent) (has_none 9 e.parent) h).0 }

mapped_fits : (own : List ℕ) (edges : ℕ) (p : ParentVar) → is_given_counterpart own edges p ≡ true → IsMappedWithin p → FitsMapped p
mapped_fits own edges p h within =
    let named = and_parts (nat_lt p.edge edges) (is_name p.name && (has_none 9 p.name || bytes_eq p.name own)) h in
    record { edge = within; name = name_in_line p.name (and_parts (is_name p.name) (has_none 9 p.name || bytes_eq p.name own) named.1).0 }

var_fits : (edges : ℕ) (v : VarDecl) → is_given_var edges v ≡ true → IsVarWithin v → FitsVar v
var_fits edges v h within =
    let mapped = list_all (is_given_counterpart v.name edges) v.parents in
    let named = and_parts (is_name v.name) (is_given_constant v.constant_line v.kind v.constant && mapped) h in
    let parents = (and_parts (is_given_constant v.constant_line v.kind v.constant) mapped named.1).1 in
    record {
      name = name_in_line v.name named.0;
      elem = within.elem;
      index = within.index;
      constant = within.constant;
      parents = each_passed (is_given_counterpart v.name edges) IsMappedWithin FitsMapped (mapped_fits v.name edges) v.parents parents within.parents;
    }

point_fits : (d : PointDecl) → is_given_point d ≡ true → IsPointWithin d → FitsPoint d
point_fits d h within =
    let edges = all_new [] (map edge_key d.edges) && list_all is_given_edge d.edges in
    let vars = all_new [] (map (λ (v : VarDecl). v.name) d.vars) && list_all (is_given_var (length d.edges)) d.vars in
    let named = and_parts (is_name d.name) (edges && vars) h in
    let both = and_parts edges vars named.1 in
    let are_edges = (and_parts (all_new [] (map edge_key d.edges)) (list_all is_given_edge d.edges) both.0).1 in
    let are_vars = (and_parts (all_new [] (map (λ (v : VarDecl). v.name) d.vars)) (list_all (is_given_var (length d.edges)) d.vars) both.1).1 in
    record {
      name = name_in_line d.name named.0;
      edges = each_passed is_given_edge IsEdgeWithin FitsEdge edge_fits d.edges are_edges within.edges;
      vars = each_passed (is_given_var (length d.edges)) IsVarWithin FitsVar (var_fits (length d.edges)) d.vars are_vars within.vars;
    }

pub all_given : (ds : List PointDecl) → All (λ d. IsTrue (is_given_point d)) ds → All IsPointWithin ds → All CanBeGiven ds
all_given ds given within = λ k e l. record { given = given k e l; fits = point_fits _ (given k e l) (within k e l) }

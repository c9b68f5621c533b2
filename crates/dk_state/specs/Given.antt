-- The declarations that a block can give.
use Rattle.std.specs.Prelude.{◌==◌, ◌-◌, ◌++◌, ◌&&◌, ◌||◌, ℕ, Bool, true, IsTrue, List, [], ◌∷◌, is_none, length, map, nat_lt, not, slice_index_or, Option, Some, None}
use Rattle.std.specs.Fmt.{decimal}
use Rattle.std.specs.List.{list_all}
use Rattle.std.specs.Str.{bytes_eq}
use Rattle.dk_base.specs.declared.kinds.Kind.{Kind}
use Rattle.dk_base.specs.declared.values.Value.{Value}
use Rattle.dk_decl.specs.Types.{is_missing}
use Rattle.dk_decl.specs.declared.decls.EdgeDecl.{EdgeDecl}
use Rattle.dk_decl.specs.declared.decls.ParentVar.{ParentVar}
use Rattle.dk_decl.specs.declared.decls.PointDecl.{PointDecl}
use Rattle.dk_decl.specs.declared.decls.VarDecl.{VarDecl}
use Rattle.dk_graph.specs.Names.{place_of}
use Rattle.dk_state.specs.Fitting.{FitsPoint}
use Rattle.dk_state.specs.Lines.{behind_blank}
use Rattle.dk_write.specs.Names.{has_none}

-- a name that a line can tell: it is not empty, neither begins nor ends with a tab (9), and has no LF (10)
abbrev pub is_name : List ℕ → Bool
is_name name =
    nat_lt 0 (length name)
    && (not (slice_index_or name 0 0 == 9) && (not (slice_index_or name (length name - 1) 0 == 9) && has_none 10 name))

-- an edge is told by words, so its name has no tab
abbrev pub is_given_edge : EdgeDecl → Bool
is_given_edge e = is_name e.parent && has_none 9 e.parent

-- A counterpart at one of so many edges. Its name is told as a word, or is the variable's own name.
abbrev pub is_given_counterpart : List ℕ → ℕ → ParentVar → Bool
is_given_counterpart own edges p = nat_lt p.edge edges && (is_name p.name && (has_none 9 p.name || bytes_eq p.name own))

-- a constant is there or isn't, and isn't missing; that of an opaque variable isn't read
abbrev pub is_given_constant : Bool → Option Kind → Option Value → Bool
is_given_constant there kind None = not there || is_none kind
is_given_constant there kind (Some x) = there && not (is_missing x)

abbrev pub is_given_var : ℕ → VarDecl → Bool
is_given_var edges v =
    is_name v.name && (is_given_constant v.constant_line v.kind v.constant && list_all (is_given_counterpart v.name edges) v.parents)

-- none of the names is one that was seen, or comes twice
abbrev pub all_new : List (List ℕ) → List (List ℕ) → Bool
all_new seen [] = true
all_new seen (name ∷ names) = is_none (place_of seen name) && all_new (seen ++ name ∷ []) names

-- what tells an edge of a block from its others: its ID and the parent's name
abbrev pub edge_key : EdgeDecl → List ℕ
edge_key e = behind_blank (decimal e.id) ++ behind_blank e.parent

abbrev pub is_given_point : PointDecl → Bool
is_given_point d =
    is_name d.name && ((all_new [] (map edge_key d.edges) && list_all is_given_edge d.edges)
    && (all_new [] (map (λ v. v.name) d.vars) && list_all (is_given_var (length d.edges)) d.vars))

-- Names are told by lines, no two edges have the same parent and ID, no two variables the same name. Numbers are within their types, and
-- constants are values of their variables' kinds.
pub record CanBeGiven (d : PointDecl) : Type 0 where
  pub given : IsTrue (is_given_point d)
  pub fits : FitsPoint d

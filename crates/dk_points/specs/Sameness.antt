-- Declarations that are the same.
use Rattle.std.specs.Prelude.{Bool, true, false, ◌&&◌, ◌==◌, Option, Some, None, bytes_eq}
use Rattle.std.specs.Bool.{beq}
use Rattle.std.specs.Cmp.Lexicographic.{pointwise}
use Rattle.std.specs.Ordering.{int_eq}
use Rattle.dk_base.specs.declared.kinds.Compar.{Compar}
use Rattle.dk_base.specs.Values.SameValues.{same_value}
use Rattle.dk_decl.specs.declared.decls.ParentVar.{ParentVar}
use Rattle.dk_decl.specs.declared.decls.PointDecl.{PointDecl}
use Rattle.dk_decl.specs.declared.decls.VarDecl.{VarDecl}
use Rattle.dk_points.specs.Links.{same_edge}
use Rattle.dk_points.specs.Vars.{same_kind}

-- both are there and pass, or neither is there
abbrev pub same_option : {X : Type 0} → (X → X → Bool) → Option X → Option X → Bool
same_option same None None = true
same_option same (Some a) (Some b) = same a b
same_option same _ _ = false

abbrev pub same_compar : Compar → Compar → Bool
same_compar a b = int_eq a.elem b.elem && int_eq a.index b.index

abbrev pub same_parent_var : ParentVar → ParentVar → Bool
same_parent_var a b = a.edge == b.edge && bytes_eq a.name b.name

-- name, kind, comparability, constant, and the parent lines that count
abbrev pub same_var : VarDecl → VarDecl → Bool
same_var a b = bytes_eq a.name b.name && (same_option same_kind a.kind b.kind && (same_compar a.compar b.compar
    && (same_option same_value a.constant b.constant
    && (beq a.constant_line b.constant_line && pointwise same_parent_var a.parents b.parents))))

-- name, edges in order, and variables in order
unfoldable pub same_decl : PointDecl → PointDecl → Bool
same_decl a b = bytes_eq a.name b.name && (pointwise same_edge a.edges b.edges && pointwise same_var a.vars b.vars)

-- Declarations, as they are saved.
use Rattle.std.specs.Prelude.{ℕ, Bool, List, [], ◌∷◌, ◌++◌, filter_map, flat_map, unwrap_or, Option, if◌then◌else◌}
use Rattle.std.specs.Fmt.{decimal, signed_decimal}
use Rattle.dk_base.specs.Names.{escaped}
use Rattle.dk_base.specs.Values.Spelling.{spelling}
use Rattle.dk_base.specs.declared.values.Value.{Value}
use Rattle.dk_base.specs.declared.values.Value.TheVariants as value
use Rattle.dk_decl.specs.declared.decls.EdgeDecl.{EdgeDecl}
use Rattle.dk_decl.specs.declared.decls.ParentVar.{ParentVar}
use Rattle.dk_decl.specs.declared.decls.PointDecl.{PointDecl}
use Rattle.dk_decl.specs.declared.decls.VarDecl.{VarDecl}
use Rattle.dk_points.specs.Table.{Point, decl_if_declared}
use Rattle.dk_state.specs.Lines.{state_line}
use Rattle.dk_write.specs.Declarations.{rep_text}

-- `edge ID NAME`
abbrev pub edge_line : EdgeDecl → List ℕ
edge_line e = state_line "edge" (decimal e.id ∷ escaped e.parent ∷ [])

-- `var REP ELEM INDEX NAME`
abbrev pub var_decl_line : VarDecl → List ℕ
var_decl_line v = state_line "var" (rep_text v.kind ∷ signed_decimal v.compar.elem ∷ signed_decimal v.compar.index ∷ escaped v.name ∷ [])

-- `constant VALUE`, where the variable has one; of an opaque one the value is missing
abbrev pub constant_decl_text : Bool → Option Value → List ℕ
constant_decl_text there constant = if there then state_line "constant" (spelling (unwrap_or constant value.Missing) ∷ []) else []

abbrev pub constant_line : VarDecl → List ℕ
constant_line v = constant_decl_text v.constant_line v.constant

-- `mapped EDGE NAME`, the edge by its place among the edges of the declaration
abbrev pub mapped_line : ParentVar → List ℕ
mapped_line p = state_line "mapped" (decimal p.edge ∷ escaped p.name ∷ [])

abbrev pub var_lines : VarDecl → List ℕ
var_lines v = var_decl_line v ++ (constant_line v ++ flat_map mapped_line v.parents)

-- A declared point: `point NAME`, its edges as they were declared, its variables with what belongs to each, and `end`.
abbrev pub point_lines : PointDecl → List ℕ
point_lines d =
    state_line "point" (escaped d.name ∷ []) ++ (flat_map edge_line d.edges ++ (flat_map var_lines d.vars ++ state_line "end" []))

-- the declarations of the declared points, in order
abbrev pub decls_of : List Point → List PointDecl
decls_of ps = filter_map decl_if_declared ps

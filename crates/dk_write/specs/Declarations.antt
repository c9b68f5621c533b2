-- The lines of a declaration.
use Rattle.std.specs.Prelude.{ℕ, List, [], ◌∷◌, ◌++◌, codes, flat_map, map, slice_get, unwrap_or, Option, Some, None, if◌then◌else◌}
use Rattle.std.specs.Fmt.{decimal, signed_decimal}
use Rattle.std.specs.Option.{option_map_or}
use Rattle.dk_base.specs.Names.{escaped}
use Rattle.dk_base.specs.Values.Spelling.{spelling}
use Rattle.dk_base.specs.declared.kinds.Compar.{Compar}
use Rattle.dk_base.specs.declared.kinds.Kind.{Kind}
use Rattle.dk_base.specs.declared.kinds.Kind.TheVariants as kind
use Rattle.dk_base.specs.declared.values.Value.TheVariants as value
use Rattle.dk_decl.specs.declared.decls.EdgeDecl.{EdgeDecl}
use Rattle.dk_decl.specs.declared.decls.ParentVar.{ParentVar}
use Rattle.dk_decl.specs.declared.decls.PointDecl.{PointDecl}
use Rattle.dk_decl.specs.declared.decls.VarDecl.{VarDecl}

-- the rep-type of the kind; `double` is that of an opaque variable
abbrev pub rep_text : Option Kind → List ℕ
rep_text None = codes "double"
rep_text (Some kind.Bool) = codes "boolean"
rep_text (Some kind.Int) = codes "int"
rep_text (Some kind.Hash) = codes "hashcode"
rep_text (Some kind.Str) = codes "java.lang.String"
rep_text (Some kind.BoolSeq) = codes "boolean[]"
rep_text (Some kind.IntSeq) = codes "int[]"
rep_text (Some kind.HashSeq) = codes "hashcode[]"
rep_text (Some kind.StrSeq) = codes "java.lang.String[]"

-- `E[I]`, with the brackets 91 and 93
abbrev pub compar_text : Compar → List ℕ
compar_text c = signed_decimal c.elem ++ 91 ∷ (signed_decimal c.index ++ 93 ∷ [])

-- `ppt NAME`
abbrev pub point_line : List ℕ → List ℕ
point_line name = codes "ppt " ++ escaped name

-- `parent parent NAME ID`
abbrev pub edge_line : EdgeDecl → List ℕ
edge_line e = codes "parent parent " ++ (escaped e.parent ++ 32 ∷ decimal e.id)

-- `variable NAME`
abbrev pub variable_line : List ℕ → List ℕ
variable_line name = codes "variable " ++ escaped name

-- `rep-type R`
abbrev pub rep_line : Option Kind → List ℕ
rep_line k = codes "rep-type " ++ rep_text k

-- `comparability E[I]`
abbrev pub compar_line : Compar → List ℕ
compar_line c = codes "comparability " ++ compar_text c

-- `constant VALUE`, where the variable has one; that of an opaque variable isn't read
abbrev pub constant_lines : VarDecl → List (List ℕ)
constant_lines v = if v.constant_line then (codes "constant " ++ spelling (unwrap_or v.constant value.Missing)) ∷ [] else []

-- `parent NAME ID COUNTERPART`
abbrev pub counterpart_line : List ℕ → EdgeDecl → List ℕ
counterpart_line name e = codes "parent " ++ (escaped e.parent ++ 32 ∷ (decimal e.id ++ 32 ∷ escaped name))

-- the line of a counterpart; none at an edge that the declaration doesn't have
abbrev pub counterpart_lines : List EdgeDecl → ParentVar → List (List ℕ)
counterpart_lines es p = option_map_or (λ e. counterpart_line p.name e ∷ []) (slice_get es p.edge) []

-- the lines of a variable of a declaration with these edges
abbrev pub var_lines : List EdgeDecl → VarDecl → List (List ℕ)
var_lines es v =
    variable_line v.name ∷ rep_line v.kind ∷ compar_line v.compar ∷ (constant_lines v ++ flat_map (counterpart_lines es) v.parents)

-- The lines of a declaration: its point, its edges in order, and its variables in order.
abbrev pub declaration_lines : PointDecl → List (List ℕ)
declaration_lines d = point_line d.name ∷ (map edge_line d.edges ++ flat_map (var_lines d.edges) d.vars)

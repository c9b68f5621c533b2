-- The lines of a variable in a `ppt` block.
use Rattle.std.specs.Prelude.{◌&&◌, ◌||◌, ◌++◌, ℕ, Bool, List, [], ◌∷◌, codes, is_some, Option, Some, None, Result, Ok, if◌then◌else◌}
use Rattle.std.specs.List.{position}
use Rattle.std.specs.Option.{option_map, option_map_or}
use Rattle.dk_base.specs.Names.{unescaped}
use Rattle.dk_base.specs.Pieces.{is_empty}
use Rattle.dk_base.specs.Reading.{Line, LineFault, ◌>>=◌}
use Rattle.dk_base.specs.declared.values.Value.{Value}
use Rattle.dk_base.specs.declared.why.Why.TheVariants.{BadVariable}
use Rattle.dk_decl.specs.Brackets.{compar_of, no_compar}
use Rattle.dk_decl.specs.Heads.{id_of, is_edge}
use Rattle.dk_decl.specs.LineWords.{begins, operand, operands}
use Rattle.dk_decl.specs.Outcomes.{refused, or_refused}
use Rattle.dk_decl.specs.Types.{constant_at, rep_kind, rep_type_of}
use Rattle.dk_decl.specs.VarNames.{has_name}
use Rattle.dk_decl.specs.declared.decls.EdgeDecl.{EdgeDecl}
use Rattle.dk_decl.specs.declared.decls.ParentVar.{ParentVar}
use Rattle.dk_decl.specs.declared.decls.VarDecl.{VarDecl}
use Rattle.dk_decl.specs.declared.types.RepType.{RepType}
use Rattle.dk_decl.specs.declared.variables.OpenVar.{OpenVar}

abbrev pub new_var : ℕ → List ℕ → OpenVar
new_var line name = record { line = line; name = name; rep = None; compar = no_compar; constant = None; parents = [] }

-- a `variable NAME` line: a name that is not empty and that no earlier variable has
unfoldable pub open_var : List VarDecl → Line → Result OpenVar LineFault
open_var vs l =
    if is_empty (operand l.bytes) || has_name (unescaped (operand l.bytes)) vs then refused BadVariable l.number
    else Ok (new_var l.number (unescaped (operand l.bytes)))

-- the counterpart of this name at an edge of the block, or none where the block has no such edge
abbrev pub at_edge : List EdgeDecl → List ℕ → List ℕ → ℕ → List ParentVar
at_edge es parent name id = option_map_or (λ k. record { edge = k; name = name } ∷ []) (position (is_edge parent id) es) []

-- behind `parent`: a point's name, an ID and the counterpart's name, which is the variable's own where it is left out
unfoldable pub counterparts : List EdgeDecl → List ℕ → List (List ℕ) → Option (List ParentVar)
counterparts es own (parent ∷ id ∷ []) = option_map (at_edge es (unescaped parent) own) (id_of id)
counterparts es own (parent ∷ id ∷ name ∷ []) = option_map (at_edge es (unescaped parent) (unescaped name)) (id_of id)
counterparts es own _ = None

abbrev pub with_counterparts : List ParentVar → ℕ → Option (List ParentVar) → Result (List ParentVar) LineFault
with_counterparts ps line found = or_refused BadVariable line found >>= λ more. Ok (ps ++ more)

-- A variable with one line more: of a repeated line the last one counts, and each `parent` line does. Other lines are read past.
unfoldable pub var_line : Bool → List EdgeDecl → OpenVar → Line → Result OpenVar LineFault
var_line implicit es o l =
    if begins (codes "rep-type") l.bytes then
    (or_refused BadVariable l.number (rep_type_of (operand l.bytes)) >>= λ r. Ok (record o { rep = Some r }))
    else if begins (codes "comparability") l.bytes && implicit then
    (or_refused BadVariable l.number (compar_of (operand l.bytes)) >>= λ c. Ok (record o { compar = c }))
    else if begins (codes "constant") l.bytes then
    Ok (record o { constant = Some (record { line = l.number; text = operand l.bytes }) })
    else if begins (codes "parent") l.bytes then
    (with_counterparts o.parents l.number (counterparts es o.name (operands l.bytes)) >>= λ ps. Ok (record o { parents = ps }))
    else Ok o

abbrev pub var_with : OpenVar → RepType → Option Value → VarDecl
var_with o rep constant = record {
  name = o.name;
  kind = rep_kind rep;
  compar = o.compar;
  constant = constant;
  constant_line = is_some o.constant;
  parents = o.parents;
}

-- A variable is judged when it ends: it has a rep-type, and then its constant is a value.
unfoldable pub var_decl_of : OpenVar → Result VarDecl LineFault
var_decl_of o = or_refused BadVariable o.line o.rep >>= λ rep. constant_at rep o.constant >>= λ constant. Ok (var_with o rep constant)

-- The lines of a `ppt` block in front of its first variable.
use Rattle.std.specs.Prelude.{◌&&◌, ◌||◌, ◌==◌, ◌^◌, ◌++◌, ℕ, Bool, List, [], ◌∷◌, codes, map, nat_lt, is_some, Option, Some, None, option_and_then, Result, Ok, if◌then◌else◌}
use Rattle.std.specs.Char.{to_ascii_lowercase}
use Rattle.std.specs.List.{list_any}
use Rattle.std.specs.Str.{bytes_eq}
use Rattle.dk_base.specs.Names.{unescaped}
use Rattle.dk_base.specs.Numbers.{natural_of}
use Rattle.dk_base.specs.Reading.{Line, LineFault}
use Rattle.dk_base.specs.declared.why.Why.TheVariants.{BadPoint}
use Rattle.dk_decl.specs.LineWords.{begins, operand, operands}
use Rattle.dk_decl.specs.Outcomes.{refused}
use Rattle.dk_decl.specs.declared.decls.EdgeDecl.{EdgeDecl}

-- an edge's ID: a decimal number below 2 ^ 32
unfoldable pub id_of : List ℕ → Option ℕ
id_of text = option_and_then (λ n. if nat_lt n (2 ^ 32) then Some n else None) (natural_of text)

-- the edge with this ID to the point of this name
abbrev pub is_edge : List ℕ → ℕ → EdgeDecl → Bool
is_edge parent id e = bytes_eq e.parent parent && e.id == id

-- one edge more, unless the block has it already
abbrev pub with_edge : List EdgeDecl → ℕ → List ℕ → Option ℕ → Result (List EdgeDecl) LineFault
with_edge es line parent None = refused BadPoint line
with_edge es line parent (Some id) =
    if list_any (is_edge parent id) es then refused BadPoint line
    else Ok (es ++ record { parent = parent; id = id } ∷ [])

-- another relation than `parent` makes no edge, and wants an ID too
abbrev pub with_relation : List EdgeDecl → ℕ → List ℕ → List ℕ → Option ℕ → Result (List EdgeDecl) LineFault
with_relation es line relation parent id =
    if bytes_eq relation (codes "parent") then with_edge es line parent id
    else if is_some id then Ok es
    else refused BadPoint line

-- behind `parent`: a relation, a point's name and an ID
unfoldable pub parent_line : List EdgeDecl → ℕ → List (List ℕ) → Result (List EdgeDecl) LineFault
parent_line es line (relation ∷ parent ∷ id ∷ []) = with_relation es line relation (unescaped parent) (id_of id)
parent_line es line _ = refused BadPoint line

-- a type of points, in any ASCII case
unfoldable pub is_point_type : List ℕ → Bool
is_point_type text =
    bytes_eq (map to_ascii_lowercase text) (codes "point") || bytes_eq (map to_ascii_lowercase text) (codes "class")
    || bytes_eq (map to_ascii_lowercase text) (codes "object") || bytes_eq (map to_ascii_lowercase text) (codes "enter")
    || bytes_eq (map to_ascii_lowercase text) (codes "exit") || bytes_eq (map to_ascii_lowercase text) (codes "subexit")

-- the edges with one line more; other lines than `ppt-type` and `parent` lines are read past
unfoldable pub head_line : List EdgeDecl → Line → Result (List EdgeDecl) LineFault
head_line es l =
    if begins (codes "ppt-type") l.bytes then (if is_point_type (operand l.bytes) then Ok es else refused BadPoint l.number)
    else if begins (codes "parent") l.bytes then parent_line es l.number (operands l.bytes)
    else Ok es

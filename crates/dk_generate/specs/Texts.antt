-- The texts that don't depend on the number.
use Rattle.std.specs.Prelude.{◌++◌, ℕ, Bool, true, false, List, [], codes, if◌then◌else◌}

-- the name that the generated input has as a file
unfoldable pub generated_name : List ℕ
generated_name = codes "generated"

-- the line that tells of it
unfoldable pub generated_line : List ℕ
generated_line = codes "generated 20000 records\n"

abbrev pub line : List ℕ → List ℕ
line text = text ++ codes "\n"

-- the lines of a variable; at a point with a parent those of the stack have one line more
abbrev pub variable_lines : List ℕ → List ℕ → List ℕ → List ℕ
variable_lines name var_kind rep_type =
    line (codes "variable " ++ name) ++ (line (codes "var-kind " ++ var_kind) ++ line (codes "rep-type " ++ rep_type))

abbrev pub inherited : Bool → List ℕ → List ℕ
inherited has_parent lines = lines ++ (if has_parent then line (codes "parent Stack:::OBJECT 1") else [])

-- a declaration behind a blank line: the point, its type, its parent where it has one, the stack's variables, and what it has besides
abbrev pub declaration : List ℕ → List ℕ → Bool → List ℕ → List ℕ
declaration name type has_parent own =
    codes "\n" ++ (line (codes "ppt " ++ name) ++ (line (codes "ppt-type " ++ type)
    ++ ((if has_parent then line (codes "parent parent Stack:::OBJECT 1") else [])
    ++ (inherited has_parent (variable_lines (codes "this.top") (codes "field top") (codes "int"))
    ++ (inherited has_parent (variable_lines (codes "this.items[..]") (codes "array") (codes "int[]")) ++ own)))))

abbrev pub pushed_variable : List ℕ
pushed_variable = variable_lines (codes "x") (codes "variable") (codes "int")

abbrev pub returned_variable : List ℕ
returned_variable = variable_lines (codes "return") (codes "return") (codes "int")

-- its first block and its declarations
unfoldable pub declarations : List ℕ
declarations =
    line (codes "decl-version 2.0") ++ (line (codes "var-comparability none")
    ++ (declaration (codes "Stack:::OBJECT") (codes "object") false []
    ++ (declaration (codes "Stack.push(int):::ENTER") (codes "enter") true pushed_variable
    ++ (declaration (codes "Stack.push(int):::EXIT1") (codes "subexit") true pushed_variable
    ++ (declaration (codes "Stack.pop():::ENTER") (codes "enter") true []
    ++ declaration (codes "Stack.pop():::EXIT2") (codes "subexit") true returned_variable)))))

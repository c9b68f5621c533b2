-- The lines of a state file.
use Prim.Native.String.{String}
use Rattle.std.specs.Prelude.{ℕ, List, ◌∷◌, ◌++◌, codes, flat_map, map}
use Rattle.std.specs.Fmt.{decimal}
use Rattle.dk_base.specs.declared.kinds.VarId.{VarId}

-- a field behind a blank (32)
abbrev pub behind_blank : List ℕ → List ℕ
behind_blank field = 32 ∷ field

abbrev pub fields_text : List (List ℕ) → List ℕ
fields_text fields = flat_map behind_blank fields

-- a line: a word, fields with single blanks in front of them, and an LF at its end
abbrev pub state_line : String → List (List ℕ) → List ℕ
state_line word fields = codes word ++ (fields_text fields ++ codes "\n")

-- variables, by their places
abbrev pub var_fields : List VarId → List (List ℕ)
var_fields vars = map (λ v. decimal v.0) vars

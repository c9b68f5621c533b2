-- The lines of a sample record, and the sample that they give.
use Rattle.std.specs.Prelude.{ℕ, ℤ, List, [], ◌∷◌, ◌++◌, codes, flat_map, is_none, Option, Some, None, if◌then◌else◌}
use Rattle.std.specs.Fmt.{signed_decimal}
use Rattle.std.specs.List.{zip}
use Rattle.dk_base.specs.Names.{escaped}
use Rattle.dk_base.specs.Values.Spelling.{spelling}
use Rattle.dk_base.specs.declared.values.Value.{Value}
use Rattle.dk_decl.specs.Types.{is_missing}
use Rattle.dk_decl.specs.declared.decls.PointDecl.{PointDecl}
use Rattle.dk_decl.specs.declared.decls.VarDecl.{VarDecl}
use Rattle.dk_trace.specs.Records.{Sample}
use Rattle.dk_trace.specs.Values.{known_values}

-- What is written of a sample: its point's declaration, a nonce if there is one, and a value for each declared variable in order.
pub record Recorded : Type 0 where
  pub decl : PointDecl
  pub nonce : Option ℤ
  pub values : List Value

-- the text of a value; of the missing one it has no effect
abbrev pub value_text : Value → List ℕ
value_text x = if is_missing x then codes "nonsensical" else spelling x

-- 2 of the missing value, and else 1
abbrev pub mark_text : Value → List ℕ
mark_text x = if is_missing x then codes "2" else codes "1"

-- Three lines of a variable and its value: its name, the value's text, and the mark. A variable with a constant doesn't stand in records.
abbrev pub told_lines : VarDecl × Value → List (List ℕ)
told_lines e = if e.0.constant_line then [] else escaped e.0.name ∷ value_text e.1 ∷ mark_text e.1 ∷ []

abbrev pub nonce_lines : Option ℤ → List (List ℕ)
nonce_lines None = []
nonce_lines (Some n) = codes "this_invocation_nonce" ∷ signed_decimal n ∷ []

-- The lines of a record: its point's name, the nonce, and the variables in order.
abbrev pub record_lines : Recorded → List (List ℕ)
record_lines r = escaped r.decl.name ∷ (nonce_lines r.nonce ++ flat_map told_lines (zip r.decl.vars r.values))

-- what the sample has of a variable: its constant, if it has one, and else its value; an opaque variable has none
abbrev pub told_values : VarDecl × Value → List Value
told_values e = if e.0.constant_line then known_values e.0.constant else if is_none e.0.kind then [] else e.1 ∷ []

-- the values of the sample
abbrev pub sample_values : Recorded → List Value
sample_values r = flat_map told_values (zip r.decl.vars r.values)

-- the sample of a record whose block begins at a line, at the place of its point
abbrev pub sample_at : ℕ → ℕ → Recorded → Sample
sample_at line p r = record { point = p; line = line; nonce = r.nonce; values = sample_values r }

-- A value of which the text was read, and the mark was not.
use Rattle.std.specs.Prelude.{List, [], ◌∷◌, Result, Ok}
use Rattle.dk_base.specs.Reading.{Line, LineFault}
use Rattle.dk_base.specs.Values.{value_of}
use Rattle.dk_base.specs.declared.values.Value.{Value}
use Rattle.dk_base.specs.declared.values.Value.TheVariants as value
use Rattle.dk_base.specs.declared.why.Why.TheVariants.{BadValue}
use Rattle.dk_decl.specs.Outcomes.{refused}
use Rattle.dk_trace.specs.Marks.{marked}
use Rattle.dk_trace.specs.declared.marks.Unmarked.{Unmarked}
use Rattle.dk_trace.specs.declared.marks.Unmarked.TheVariants as unmarked

-- the missing value, which an opaque variable doesn't have
abbrev pub missing_of : Unmarked → List Value
missing_of unmarked.Opaque = []
missing_of (unmarked.Value view) = value.Missing ∷ []
missing_of (unmarked.NoValue line) = value.Missing ∷ []

-- the value that the text says
abbrev pub said_by : Unmarked → Result (List Value) LineFault
said_by unmarked.Opaque = Ok []
said_by (unmarked.Value view) = Ok (value_of view ∷ [])
said_by (unmarked.NoValue line) = refused BadValue line

-- the value with its mark
unfoldable pub with_mark : Unmarked → Line → Result (List Value) LineFault
with_mark u mark = marked (missing_of u) (said_by u) mark

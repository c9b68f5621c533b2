-- A value and its mark.
use Rattle.std.specs.Prelude.{◌||◌, List, [], ◌∷◌, codes, Option, Some, None, Result, Ok, if◌then◌else◌}
use Rattle.std.specs.Str.{bytes_eq}
use Rattle.dk_base.specs.Reading.{Line, LineFault, ◌>>=◌}
use Rattle.dk_base.specs.Values.{value_of_text}
use Rattle.dk_base.specs.declared.kinds.Kind.{Kind}
use Rattle.dk_base.specs.declared.values.Value.{Value}
use Rattle.dk_base.specs.declared.values.Value.TheVariants as value
use Rattle.dk_base.specs.declared.why.Why.TheVariants.{BadMark, BadValue}
use Rattle.dk_decl.specs.Outcomes.{or_refused, refused}

-- the value of a text; an opaque variable's text is read past
unfoldable pub read_value : Option Kind → Line → Result (List Value) LineFault
read_value None text = Ok []
read_value (Some k) text = or_refused BadValue text.number (value_of_text k text.bytes) >>= λ v. Ok (v ∷ [])

-- the missing value, which an opaque variable doesn't have either
abbrev pub no_value : Option Kind → List Value
no_value None = []
no_value (Some k) = value.Missing ∷ []

-- what the mark makes of the missing value and of what the text says
abbrev pub marked : List Value → Result (List Value) LineFault → Line → Result (List Value) LineFault
marked missing said mark =
    if bytes_eq mark.bytes (codes "2") then Ok missing
    else if bytes_eq mark.bytes (codes "0") || bytes_eq mark.bytes (codes "1") then said
    else refused BadMark mark.number

-- A value of a text with a mark. With mark 2 it is missing, whatever the text; with mark 0 or 1 the text is to be a value of the kind.
unfoldable pub marked_value : Option Kind → Line → Line → Result (List Value) LineFault
marked_value k text mark = marked (no_value k) (read_value k text) mark

-- Rep-types, and the constants that they take.
use Rattle.std.specs.Prelude.{◌||◌, ℕ, Bool, true, false, List, codes, Option, Some, None, Result, Ok, if◌then◌else◌}
use Rattle.std.specs.Str.{bytes_eq}
use Rattle.dk_base.specs.Reading.{LineFault}
use Rattle.dk_base.specs.Values.{value_of_text}
use Rattle.dk_base.specs.declared.kinds.Kind.{Kind}
use Rattle.dk_base.specs.declared.kinds.Kind.TheVariants.{Bool as BoolKind, Int, Hash, Str, BoolSeq, IntSeq, HashSeq, StrSeq}
use Rattle.dk_base.specs.declared.values.Value.{Value}
use Rattle.dk_base.specs.declared.values.Value.TheVariants as value
use Rattle.dk_base.specs.declared.why.Why.TheVariants.{BadVariable}
use Rattle.dk_decl.specs.Outcomes.{refused}
use Rattle.dk_decl.specs.declared.types.RepType.{RepType}
use Rattle.dk_decl.specs.declared.types.RepType.TheVariants.{Of, Opaque}
use Rattle.dk_decl.specs.declared.types.Placed.{Placed}

-- the rep-type of this name
unfoldable pub rep_type_of : List ℕ → Option RepType
rep_type_of text =
    if bytes_eq text (codes "boolean") then Some (Of BoolKind)
    else if bytes_eq text (codes "int") then Some (Of Int)
    else if bytes_eq text (codes "hashcode") then Some (Of Hash)
    else if bytes_eq text (codes "java.lang.String") || bytes_eq text (codes "String") then Some (Of Str)
    else if bytes_eq text (codes "boolean[]") then Some (Of BoolSeq)
    else if bytes_eq text (codes "int[]") then Some (Of IntSeq)
    else if bytes_eq text (codes "hashcode[]") then Some (Of HashSeq)
    else if bytes_eq text (codes "java.lang.String[]") || bytes_eq text (codes "String[]") then Some (Of StrSeq)
    else if bytes_eq text (codes "double") || bytes_eq text (codes "double[]") then Some Opaque
    else None

-- the kind of the variable's values; an opaque one has none
abbrev pub rep_kind : RepType → Option Kind
rep_kind (Of k) = Some k
rep_kind Opaque = None

abbrev pub is_missing : Value → Bool
is_missing value.Missing = true
is_missing _ = false

-- a value that isn't missing, or a fault at the constant's line
abbrev pub known : ℕ → Option Value → Result (Option Value) LineFault
known line None = refused BadVariable line
known line (Some v) = if is_missing v then refused BadVariable line else Ok (Some v)

-- the value of a constant's text at this line; for an opaque variable the text is not read
unfoldable pub constant_of : RepType → ℕ → List ℕ → Result (Option Value) LineFault
constant_of (Of k) line text = known line (value_of_text k text)
constant_of Opaque line text = Ok None

-- the value of a constant's text where there is one
unfoldable pub constant_at : RepType → Option Placed → Result (Option Value) LineFault
constant_at rep None = Ok None
constant_at rep (Some constant) = constant_of rep constant.line constant.text

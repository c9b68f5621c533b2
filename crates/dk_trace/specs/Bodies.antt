-- The lines of a record behind its first.
use Rattle.std.specs.Prelude.{ℤ, Bool, List, [], ◌∷◌, codes, Option, Some, None, Result, Ok, if◌then◌else◌}
use Rattle.std.specs.Str.{bytes_eq}
use Rattle.dk_base.specs.Numbers.{integer_of}
use Rattle.dk_base.specs.Reading.{Line, LineFault, ◌>>=◌, Reads}
use Rattle.dk_base.specs.declared.values.Value.{Value}
use Rattle.dk_base.specs.declared.why.Why.TheVariants.{BadNonce}
use Rattle.dk_decl.specs.Outcomes.{or_refused}
use Rattle.dk_decl.specs.declared.decls.VarDecl.{VarDecl}
use Rattle.dk_trace.specs.Values.{next_line, record_values}

-- a nonce, if there is one, and values
pub record Body : Type 0 where
  pub nonce : Option ℤ
  pub values : List Value

abbrev pub body_with : Option ℤ → Result (List Value) LineFault → Result Body LineFault
body_with nonce values = values >>= λ vs. Ok (record { nonce = nonce; values = vs })

-- a decimal number of 64 bits
unfoldable pub nonce_of : Line → Result ℤ LineFault
nonce_of number = or_refused BadNonce number.number (integer_of number.bytes)

abbrev pub from_nonce : List VarDecl → Reads Body
from_nonce vs = next_line (record { nonce = None; values = [] }) (λ number ls close.
    nonce_of number >>= λ nonce. body_with (Some nonce) (record_values vs ls close))

-- the line in front of a nonce
unfoldable pub is_nonce_line : Line → Bool
is_nonce_line l = bytes_eq l.bytes (codes "this_invocation_nonce")

-- a nonce, if the first line says that one follows, and then the values
unfoldable pub body_of : List VarDecl → Reads Body
body_of vs [] close = body_with None (record_values vs [] close)
body_of vs (l ∷ ls) close = if is_nonce_line l then from_nonce vs ls close else body_with None (record_values vs (l ∷ ls) close)

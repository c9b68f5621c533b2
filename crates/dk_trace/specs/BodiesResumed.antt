-- The lines of a record behind its first, of which some were read.
use Rattle.std.specs.Prelude.{ℤ, List, Option, None}
use Rattle.std.specs.Borrow.{Bor}
use Rattle.dk_base.specs.Reading.{Reads}
use Rattle.dk_base.specs.Values.{values_of as shown_by}
use Rattle.dk_base.specs.declared.values.View.{View}
use Rattle.dk_decl.specs.declared.decls.VarDecl.{VarDecl}
use Rattle.dk_trace.specs.Bodies.{Body, body_of, body_with, from_nonce}
use Rattle.dk_trace.specs.ValuesResumed.{values_resumed}
use Rattle.dk_trace.specs.declared.bodies.BodyReader.{BodyReader}
use Rattle.dk_trace.specs.declared.bodies.BodyReader.TheVariants.{AtStart, AtNonce, AtValues}

-- what was read so far, together with the lines that are left
unfoldable pub body_resumed : List VarDecl → BodyReader → Reads Body
body_resumed vs AtStart ls close = body_of vs ls close
body_resumed vs AtNonce ls close = from_nonce vs ls close
body_resumed vs (AtValues nonce r) ls close = body_with nonce (values_resumed vs r ls close)

-- the nonce, where it was read
abbrev pub nonce_read : BodyReader → Option ℤ
nonce_read AtStart = None
nonce_read AtNonce = None
nonce_read (AtValues nonce r) = nonce

abbrev pub shown_body : Option ℤ × Bor (List View) → Body
shown_body b = record { nonce = b.0; values = shown_by b.1.now }

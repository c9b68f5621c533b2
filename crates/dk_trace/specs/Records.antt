-- The sample that a record gives, or its first fault.
use Rattle.std.specs.Prelude.{ℕ, ℤ, List, Option, Result, Ok, [], option_and_then, option_map}
use Rattle.std.specs.Option.{option_map_or}
use Rattle.dk_base.specs.Names.{unescaped}
use Rattle.dk_base.specs.Reading.{Line, LineFault, ◌>>=◌, Reads}
use Rattle.dk_base.specs.declared.values.Value.{Value}
use Rattle.dk_base.specs.declared.why.Why.TheVariants.{UnknownPoint}
use Rattle.dk_decl.specs.Outcomes.{or_refused}
use Rattle.dk_decl.specs.declared.decls.VarDecl.{VarDecl}
use Rattle.dk_graph.specs.Names.{place_of}
use Rattle.dk_points.specs.Table.{Point, decl_at, names}
use Rattle.dk_trace.specs.Bodies.{Body, body_of}

-- A sample of the point at a place of the table, from a record that begins at a line: the values of the declared variables that are
-- not opaque.
pub record Sample : Type 0 where
  pub point : ℕ
  pub line : ℕ
  pub nonce : Option ℤ
  pub values : List Value

-- the declared point of this name; an implicit exit is not declared
abbrev pub declared_place : List Point → List ℕ → Option ℕ
declared_place ps name = option_and_then (λ p. option_map (λ _. p) (decl_at ps p)) (place_of (names ps) name)

-- the first line is the name of a declared point
unfoldable pub point_named_by : List Point → Line → Result ℕ LineFault
point_named_by ps first = or_refused UnknownPoint first.number (declared_place ps (unescaped first.bytes))

-- the variables that the point's block declares
unfoldable pub var_decls_at : List Point → ℕ → List VarDecl
var_decls_at ps p = option_map_or (λ d. d.vars) (decl_at ps p) []

abbrev pub sample_with : ℕ → ℕ → Result Body LineFault → Result Sample LineFault
sample_with p line body = body >>= λ b. Ok (record { point = p; line = line; nonce = b.nonce; values = b.values })

-- the sample of a record of this first line and the lines behind it, or its first fault
unfoldable pub sample_of : List Point → Line → Reads Sample
sample_of ps first ls close = point_named_by ps first >>= λ p. sample_with p first.number (body_of (var_decls_at ps p) ls close)

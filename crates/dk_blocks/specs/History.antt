-- What a history is, and what a block does to it. The layers above know these words by their names alone.
use Rattle.std.specs.Prelude.{◌-◌, ◌||◌, ℕ, Bool, true, false, List, [], ◌∷◌, ◌++◌, codes, is_some, length, replicate, slice_index_or, slice_set, Option, Some, None, Result, Ok, Err, if◌then◌else◌}
use Rattle.std.specs.Str.{bytes_eq}
use Rattle.dk_base.specs.Reading.{Line, LineFault, Reads, ◌>>=◌}
use Rattle.dk_base.specs.Words.{first_word}
use Rattle.dk_base.specs.declared.values.Value.{Value}
use Rattle.dk_base.specs.declared.why.Why.TheVariants.{BadHeader}
use Rattle.dk_decl.specs.Blocks.{block_decl}
use Rattle.dk_decl.specs.Headers.{awaits_word, first_header, is_implicit}
use Rattle.dk_decl.specs.Outcomes.{refused}
use Rattle.dk_decl.specs.declared.decls.PointDecl.{PointDecl}
use Rattle.dk_decl.specs.declared.header.Header.{Header}
use Rattle.dk_points.specs.Declaring.{at_line, declared}
use Rattle.dk_points.specs.Table.{Point}
use Rattle.dk_points.specs.Vars.{entry_of}
use Rattle.dk_points.specs.declared.declared.Declared.{Declared}
use Rattle.dk_points.specs.declared.declared.Declared.TheVariants.{New, Same}
use Rattle.dk_trace.specs.Records.{Sample, sample_of}
use Rattle.dk_calls.specs.Records.{call_of, values_at_exit}
use Rattle.dk_calls.specs.Waiting.{Call}
use Rattle.dk_template.specs.declared.grammar.Grammar.{Grammar}
use Rattle.dk_template.specs.declared.grammar.Grammar.TheVariants.{Two}
use Rattle.dk_blocks.specs.Fronts.{Front, block_front}

-- what the blocks so far come to
pub record History : Type 0 where
  -- the points that are declared, and the exits that they imply
  pub table : List Point
  -- for each point its own samples, each as the values of the point's base variables
  pub samples : List (List (List Value))
  -- what the header lines have put in force
  pub header : Header
  -- the records of the file that is read, the latest first
  pub calls : List Call
  -- whose rows are looked for
  pub grammar : Grammar

-- What a block does: nothing; it declares points; or the point at a place has a sample more, of a record that begins at a line, with these
-- values of its base variables.
pub data Effect : Type 0 where
  Nothing : Effect
  Declares : Effect
  Samples : (point : ℕ) → (line : ℕ) → (values : List Value) → Effect

-- what reading a block comes to: the history with it, and what it does; nothing where it is no block at all
pub record Taken : Type 0 where
  pub history : History
  pub effect : Option Effect

-- whether it is a block
abbrev pub counts : Taken → Bool
counts t = is_some t.effect

-- a block that does this, and one that does nothing
abbrev pub block_by : Effect → History → Taken
block_by effect h = record { history = h; effect = Some effect }

abbrev pub block : History → Taken
block h = block_by Nothing h

abbrev pub no_block : History → Taken
no_block h = record { history = h; effect = None }

-- What is judged where the block ends. Of a block that is cut off nothing is said.
abbrev pub where_it_ends : Option ℕ → History → Result Taken LineFault → Result Taken LineFault
where_it_ends None h taken = Ok (no_block h)
where_it_ends (Some close) h taken = taken

-- ---- declarations

-- with these points, of which the new ones have no samples
abbrev pub with_table : History → List Point → History
with_table h ps = record h { table = ps; samples = h.samples ++ replicate (length ps - length h.table) [] }

-- the declaration of a new point declares, and one that its point has already does nothing
abbrev pub declared_effect : Declared → Effect
declared_effect (New p) = Declares
declared_effect (Same p) = Nothing

-- the points with a declaration, whose block begins at this line
abbrev pub with_declaration : History → ℕ → PointDecl → Result Taken LineFault
with_declaration h line d = at_line line (declared h.table d) >>= λ t. Ok (block_by (declared_effect t.1) (with_table h t.0))

-- ---- sample records

-- The values of the base variables: those of the record, and behind those of an exit the ones that its entry had. The earlier records of
-- the file stand with the latest first.
unfoldable pub base_values : List Point → Sample → List Call → Result (List Value) LineFault
base_values ps s earlier = if is_some (entry_of ps s.point) then values_at_exit ps s earlier else Ok s.values

-- the samples of all points, with one more at a point
abbrev pub own_samples_with : List (List (List Value)) → ℕ → List Value → List (List (List Value))
own_samples_with samples p values = slice_set samples p (slice_index_or samples p [] ++ values ∷ [])

-- a record's base values give its point one sample more
abbrev pub with_values : History → Sample → List Value → Taken
with_values h s values =
    block_by (Samples s.point s.line values)
    (record h { samples = own_samples_with h.samples s.point values; calls = call_of h.table s ∷ h.calls })

-- Where exits without an entry are left out, such a record changes nothing, and its block counts.
abbrev pub or_left_out : Bool → History → Result Taken LineFault → Result Taken LineFault
or_left_out true h (Err unmatched) = Ok (block h)
or_left_out ignores h taken = taken

-- what a record does; its one fault is that it is an exit without an entry
abbrev pub with_record : Bool → History → Sample → Result Taken LineFault
with_record ignores h s = or_left_out ignores h (base_values h.table s h.calls >>= λ values. Ok (with_values h s values))

-- ---- blocks

-- the first line of a declaration: its first word is `ppt`, or it is `DECLARE`
unfoldable pub is_declaration : List ℕ → Bool
is_declaration bytes = bytes_eq (first_word bytes) (codes "ppt") || bytes_eq bytes (codes "DECLARE")

-- behind this line the block is read past
unfoldable pub is_list_of_implementors : List ℕ → Bool
is_list_of_implementors bytes = bytes_eq bytes (codes "ListImplementors")

-- what the lines of a declaration do, behind its first line
abbrev pub after_declaration : History → Line → Reads Taken
after_declaration h first ls close =
    block_decl (is_implicit h.header) first ls close >>= λ d. where_it_ends close h (with_declaration h first.number d)

-- what the lines of a sample record do, behind its first line
abbrev pub after_sample : Bool → History → Line → Reads Taken
after_sample ignores h first ls close = sample_of h.table first ls close >>= λ s. where_it_ends close h (with_record ignores h s)

-- what the lines of a record of any kind do, behind its first line
abbrev pub after_record : Bool → History → Line → Reads Taken
after_record ignores h first ls close =
    if is_declaration first.bytes then after_declaration h first ls close
    else if is_list_of_implementors first.bytes then where_it_ends close h (Ok (block h))
    else after_sample ignores h first ls close

-- A block without a record, whose last header line has this number. It must not end where a word is awaited. Without header lines, too, it
-- is none.
abbrev pub without_record : History → Option ℕ → Option ℕ → Result Taken LineFault
without_record h None close = Ok (no_block h)
without_record h (Some last) close = where_it_ends close h (if awaits_word h.header then refused BadHeader last else Ok (block h))

abbrev pub after_lines : Bool → History → Option ℕ → Reads Taken
after_lines ignores h last [] close = without_record h last close
after_lines ignores h last (l ∷ ls) close = after_record ignores h l ls close

abbrev pub after_front : Bool → History → Front → Option ℕ → Result Taken LineFault
after_front ignores h front close = after_lines ignores (record h { header = front.header }) front.last front.lines close

-- The effect of a block on a history: of its header lines, and then of its record. A line's fault is found at the line; the rest is judged
-- where the block ends. It takes whether exits without an entry are left out, and not refused.
unfoldable pub effect_of : Bool → History → Reads Taken
effect_of ignores h ls close = block_front h.header None ls >>= λ front. after_front ignores h front close

-- ---- files

-- no points, by this grammar
abbrev pub nothing_by : Grammar → History
nothing_by grammar = record { table = []; samples = []; header = first_header; calls = []; grammar = grammar }

-- the history before the first file, where no state is resumed
unfoldable pub no_history : History
no_history = nothing_by Two

-- what of a history goes on to the next file: no entry waits any more
unfoldable pub file_ended : History → History
file_ended h = record h { calls = [] }

-- What a reader stands for, line by line.
use Rattle.std.specs.Prelude.{◌≡◌, ℕ, Bool, false, List, [], length, ⊤, Option, Result, Ok, Err}
use Rattle.dk_base.specs.Reading.{Line, LineFault, Reads, ◌>>=◌}
use Rattle.dk_base.specs.declared.faults.BlockFault.{BlockFault}
use Rattle.dk_base.specs.declared.faults.BlockFault.TheVariants.{Refused, NoMemory}
use Rattle.dk_decl.specs.Blocks.{decl_resumed}
use Rattle.dk_decl.specs.Headers.{awaits_word, is_implicit}
use Rattle.dk_points.specs.Table.{Point}
use Rattle.dk_points.specs.declared.declared.Declared.{Declared}
use Rattle.dk_trace.specs.RecordsResumed.{IsOf, record_resumed}
use Rattle.dk_calls.specs.Standing.{CallsStandForRecords as CallsStandFor}
use Rattle.dk_blocks.specs.Finding.{outcome_of}
use Rattle.dk_blocks.specs.Fitting.{DeclaresFitting, ReadsFitting}
use Rattle.dk_blocks.specs.Fronts.{block_front}
use Rattle.dk_blocks.specs.History.{History, Taken, after_front, block, block_by, declared_effect, where_it_ends, with_declaration, with_record}
use Rattle.dk_blocks.specs.declared.block.Block.{Block}
use Rattle.dk_blocks.specs.declared.block.State.{State}
use Rattle.dk_blocks.specs.declared.block.State.TheVariants as state
use Rattle.dk_blocks.specs.declared.found.Found.{Found}
use Rattle.dk_blocks.specs.declared.kept.ReaderParts.{ReaderParts}
use Rattle.dk_blocks.specs.declared.reader.Reader.{Reader}

-- What a reader keeps from block to block stands for a history: it has the points, the header and the entries that wait. The history has
-- samples of each point, which the reader doesn't keep.
pub record KeepsAll (kept : ReaderParts) (h : History) : Type 0 where
  pub table : kept.points ≡ h.table
  pub header : kept.header ≡ h.header
  pub calls : CallsStandFor kept.calls h.calls
  pub many : length h.samples ≡ length h.table

unfoldable pub Stands : ReaderParts → History → Type 0
Stands kept h = KeepsAll kept h

-- what a block so far says of the lines that are left; the header is that behind its header lines
abbrev pub resumed_by : Bool → History → State → Reads Taken
resumed_by ignores h (state.Front last) ls close = block_front h.header last ls >>= λ front. after_front ignores h front close
resumed_by ignores h (state.Declaration line reader) ls close =
    decl_resumed reader ls close >>= λ d. where_it_ends close h (with_declaration h line d)
resumed_by ignores h state.Implementors ls close = where_it_ends close h (Ok (block h))
resumed_by ignores h (state.Record reader) ls close =
    record_resumed h.table reader ls close >>= λ s. where_it_ends close h (with_record ignores h s)

unfoldable pub block_resumed : Bool → History → Block → Reads Taken
block_resumed ignores h b ls close = resumed_by ignores (record h { header = b.header }) b.state ls close

-- a record that is read is of a point of the table, and gives values of its variables; a declaration gives constants that are such values
abbrev pub StateFits : List Point → State → Type 0
StateFits ps (state.Front last) = ⊤
StateFits ps (state.Declaration line reader) = DeclaresFitting reader
StateFits ps state.Implementors = ⊤
StateFits ps (state.Record reader) = IsOf ps reader × ReadsFitting ps reader

unfoldable pub Fits : ReaderParts → Block → Type 0
Fits kept b = StateFits kept.points b.state

-- the lines so far are the front of a declaration
abbrev pub IsDeclared : State → Type 0
IsDeclared (state.Front last) = ⊥
IsDeclared (state.Declaration line reader) = ⊤
IsDeclared state.Implementors = ⊥
IsDeclared (state.Record reader) = ⊥

-- What a call leaves behind its reference, if it succeeds; after a fault nothing is said of it.
abbrev pub left_behind : {A B E : Type 0} → B → Result A E → Result B E
left_behind b (Ok x) = Ok b
left_behind b (Err e) = Err e

-- what a call leaves behind its reference, beside what it answers
abbrev pub left_with_answer : {A B E : Type 0} → B → Result A E → Result (B × A) E
left_with_answer b (Ok x) = Ok (b, x)
left_with_answer b (Err e) = Err e

-- A fault that was found is what `read` says, whatever is left.
abbrev pub FaultAgreesOnward : BlockFault → Reads Taken → Type 0
FaultAgreesOnward (Refused line why) read = (ls : List Line) (close : Option ℕ) → read ls close ≡ Err (record { line = line; why = why })
FaultAgreesOnward NoMemory read = ⊤

-- The block goes on as `read` says, whatever is left.
abbrev pub BlockGoesOn : Bool → History → Result Block BlockFault → Reads Taken → Type 0
BlockGoesOn ignores h (Ok b) read = (ls : List Line) (close : Option ℕ) → read ls close ≡ block_resumed ignores h b ls close
BlockGoesOn ignores h (Err e) read = FaultAgreesOnward e read

-- The block's end gives what was read, or the fault that was.
abbrev pub Closes : Result (ReaderParts × Option Found) BlockFault → Result Taken LineFault → Type 0
Closes (Ok r) read = (h : History) × Stands r.0 h × (read ≡ outcome_of h r.1)
Closes (Err (Refused line why)) read = read ≡ Err (record { line = line; why = why })
Closes (Err NoMemory) read = ⊤

-- So does a declaration that is taken.
abbrev pub DeclaredAs : Result (ReaderParts × Declared) BlockFault → Result Taken LineFault → Type 0
DeclaredAs (Ok r) read = (h : History) × Stands r.0 h × (read ≡ Ok (block_by (declared_effect r.1) h))
DeclaredAs (Err (Refused line why)) read = read ≡ Err (record { line = line; why = why })
DeclaredAs (Err NoMemory) read = ⊤

-- ---- readers
-- a reader stands for a history
abbrev pub ReaderStandsFor : Reader → History → Type 0
ReaderStandsFor r h = Stands r.kept h

-- its points
abbrev pub points_of : Reader → List Point
points_of r = r.kept.points

-- whether the comparability word in force is `implicit`, and not `none`
abbrev pub implicit_of : Reader → Bool
implicit_of r = is_implicit r.kept.header

-- whether it has come to the end of its file
abbrev pub over_of : Reader → Bool
over_of r = r.is_over

abbrev pub file_of : Reader → ℕ
file_of r = r.file

-- It stands between two files: no entry waits, and no header line awaits its word.
pub record IsBetweenFiles (h : History) : Type 0 where
  pub no_calls : h.calls ≡ []
  pub no_word : awaits_word h.header ≡ false
  pub many : length h.samples ≡ length h.table

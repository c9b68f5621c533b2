-- The blocks of a file: the header lines and the record's lines of each, without the comments in front of these.
use Rattle.std.specs.Prelude.{ℕ, Bool, false, not, ◌&&◌, ◌++◌, List, [], ◌∷◌, filter, map, Option, Some, None, Result, Ok, Err, if◌then◌else◌}
use Rattle.dk_base.specs.Pieces.{is_empty}
use Rattle.dk_base.specs.Reading.{Line}
use Rattle.dk_base.specs.declared.why.Why.{Why}
use Rattle.dk_lines.specs.Left.{lines_of, numbered}
use Rattle.dk_decl.specs.Comments.{is_comment}
use Rattle.dk_decl.specs.Headers.{first_header, header_line, is_implicit, with_word}
use Rattle.dk_decl.specs.declared.header.Header.{Header}
use Rattle.dk_blocks.specs.Blocks.{Groups, Group, Last, groups_of}
use Rattle.dk_blocks.specs.History.{is_declaration, is_list_of_implementors}

-- ---- runs of lines

abbrev pub bytes_of : List Line → List (List ℕ)
bytes_of ls = map (λ (l : Line). l.bytes) ls

abbrev pub lines_of_groups : Groups → List (List (List ℕ))
lines_of_groups (Group ls close rest) = bytes_of ls ∷ lines_of_groups rest
lines_of_groups (Last ls end) = bytes_of ls ∷ []

-- What stands between the blank lines of a file: the longest runs of lines that aren't blank, without the blanks and tabs at the lines'
-- ends.
-- Where two blank lines follow each other, a run of no lines stands between them.
abbrev pub runs_of : List ℕ → List (List (List ℕ))
runs_of file = lines_of_groups (groups_of (numbered 0 (lines_of file)))

-- ---- blocks

-- its header lines, and the lines of its record
pub record Block : Type 0 where
  pub headers : List (List ℕ)
  pub body : List (List ℕ)

abbrev pub lines_of_block : Block → List (List ℕ)
lines_of_block b = b.headers ++ b.body

-- What header lines have put in force behind one more; one that is refused changes no word, and no word is awaited behind it.
abbrev pub in_force : Header → Option (Result Header Why) → Option Header
in_force h None = None
in_force h (Some (Ok next)) = Some next
in_force h (Some (Err why)) = Some (with_word (is_implicit h))

-- the same behind this line, if it is a header line
abbrev pub behind_header : Header → List ℕ → Option Header
behind_header h line = in_force h (header_line h line)

-- the record begins at this line, or it is a header line, with which reading goes on
abbrev pub at_line : List ℕ → List (List ℕ) → Option Header → (Header → Block) → Block
at_line line lines None more = record { headers = []; body = line ∷ lines }
at_line line lines (Some next) more = let rest : Block = more next in record rest { headers = line ∷ rest.headers }

-- a run of lines as a block, where header lines in front of them have put this in force; while no record has begun, comments are left out
abbrev pub block_behind : Header → List (List ℕ) → Block
block_behind h [] = record { headers = []; body = [] }
block_behind h (line ∷ lines) =
    if is_comment line then block_behind h lines
    else at_line line lines (behind_header h line) (λ next. block_behind next lines)

abbrev pub block_of : List (List ℕ) → Block
block_of run = block_behind first_header run

-- something is left of it
abbrev pub has_lines : Block → Bool
has_lines b = not (is_empty (lines_of_block b))

-- a sample record begins at this line
abbrev pub begins_sample : List ℕ → Bool
begins_sample line = not (is_declaration line) && not (is_list_of_implementors line)

-- the lines are those of a sample record
abbrev pub is_sample : List (List ℕ) → Bool
is_sample [] = false
is_sample (line ∷ lines) = begins_sample line

-- it has a sample record
abbrev pub has_sample : Block → Bool
has_sample b = is_sample b.body

-- the blocks of a file: runs of which something is left
abbrev pub blocks_of : List ℕ → List Block
blocks_of file = filter has_lines (map block_of (runs_of file))

abbrev pub sample_blocks : List ℕ → List Block
sample_blocks file = filter has_sample (blocks_of file)

abbrev pub plain_blocks : List ℕ → List Block
plain_blocks file = filter (λ b. not (has_sample b)) (blocks_of file)

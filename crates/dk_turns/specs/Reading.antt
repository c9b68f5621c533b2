-- What is left of a file, line by line, and the blocks that are left in it.
use Rattle.std.specs.Prelude.{ℕ, Bool, List, [], ◌∷◌, ◌++◌, ◌&&◌, not, filter, map, if◌then◌else◌}
use Rattle.dk_base.specs.Pieces.{is_empty}
use Rattle.dk_base.specs.Words.{trim_blanks}
use Rattle.dk_lines.specs.Left.{lines_of}
use Rattle.dk_decl.specs.declared.header.Header.{Header}
use Rattle.dk_turns.specs.Blocks.{Block, block_behind, block_of, has_lines, has_sample}
use Rattle.dk_turns.specs.Turns.{block_text}

-- the lines of bytes, without the blanks and tabs at their ends
unfoldable pub trimmed_lines : List ℕ → List (List ℕ)
trimmed_lines bytes = map trim_blanks (lines_of bytes)

-- the lines in front of the first blank one
abbrev pub first_run : List (List ℕ) → List (List ℕ)
first_run [] = []
first_run (line ∷ lines) = if is_empty line then [] else line ∷ first_run lines

-- the lines behind the first blank one
abbrev pub behind_run : List (List ℕ) → List (List ℕ)
behind_run [] = []
behind_run (line ∷ lines) = if is_empty line then lines else behind_run lines

-- what is left of the first block of lines, behind header lines that have put this in force
abbrev pub block_left : Header → List (List ℕ) → Block
block_left h lines = block_behind h (first_run lines)

-- the first block of lines
abbrev pub first_block : List (List ℕ) → Block
first_block lines = block_of (first_run lines)

-- something is left of it, and it has no sample
abbrev pub is_plain : Block → Bool
is_plain b = has_lines b && not (has_sample b)

-- a text with a blank line behind its blocks, if it has any
abbrev pub with_gap : List ℕ → List ℕ
with_gap text = if is_empty text then [] else text ++ 10 ∷ []

-- a block behind a text of blocks
abbrev pub with_block : List ℕ → Block → List ℕ
with_block text b = with_gap text ++ block_text b

-- the lists that aren't empty
abbrev pub some_left : {X : Type 0} → List (List X) → List (List X)
some_left lists = filter (λ list. not (is_empty list)) lists

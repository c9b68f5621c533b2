-- Files of several recorders as one text, and what is asked of them so that the order of their records doesn't matter.
use Rattle.std.specs.Prelude.{◌≡◌, ℕ, All, List, ◌++◌, flat_map, map}
use Rattle.std.specs.List.{join_with_byte}
use Rattle.dk_lines.specs.Left.{without_cr}
use Rattle.dk_points.specs.Table.{Point}
use Rattle.dk_turns.specs.Blocks.{Block, plain_blocks, sample_blocks}
use Rattle.dk_turns.specs.Turns.{block_text}
use Rattle.dk_recorders.specs.Blocks.{AreOfRecorders}

-- ---- texts
-- The files as one, with their sample blocks in an order: file by file the blocks without a sample record, and then those with one. A blank
-- line stands between two blocks.
unfoldable pub text_in_order : List (List ℕ) → List Block → List ℕ
text_in_order files samples = join_with_byte 10 (map block_text (flat_map plain_blocks files ++ samples))

-- the files as one without turns: the sample blocks file by file
abbrev pub text_by_file : List (List ℕ) → List ℕ
text_by_file files = text_in_order files (flat_map sample_blocks files)

-- ---- recorders
-- No line of its record ends with a CR. (Where blanks follow a CR it belongs to the line; once the line is written without these blanks,
-- the CR ends it, and would not be read any more.)
abbrev pub HasNoLastCr : Block → Type 0
HasNoLastCr b = All (λ line. without_cr line ≡ line) b.body

-- By the points of a table the sample blocks of the files are those of recorders, and no line of them ends with a CR.
pub record AreRecorders (ps : List Point) (files : List (List ℕ)) : Type 0 where
  pub blocks : AreOfRecorders ps (map sample_blocks files)
  pub no_last_cr : All (λ file. All HasNoLastCr (sample_blocks file)) files

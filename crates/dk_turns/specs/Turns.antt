-- Files as one text: what stands in them without a sample, and then their samples in turns.
use Rattle.std.specs.Prelude.{◌++◌, ℕ, zero, suc, List, [], ◌∷◌, drop, flat_map, length, map, take}
use Rattle.std.specs.List.{join_with_byte}
use Rattle.dk_turns.specs.Blocks.{Block, lines_of_block, plain_blocks, sample_blocks}

-- At most so many rounds: n items of the first list, n of the second and so on; then what is left of the lists in further rounds.
abbrev pub rounds : {X : Type 0} → ℕ → ℕ → List (List X) → List X
rounds zero n lists = []
rounds (suc more) n lists = flat_map (take n) lists ++ rounds more n (map (drop n) lists)

-- In rounds until none is left: where n is at least 1, no more rounds are needed than there are items.
abbrev pub in_rounds : {X : Type 0} → ℕ → List (List X) → List X
in_rounds n lists = rounds (length (flat_map (λ list. list) lists)) n lists

-- the blocks of all files: file by file those without a sample, and then those with one, n of each file in turn
abbrev pub blocks_in_turns : ℕ → List (List ℕ) → List Block
blocks_in_turns n files = flat_map plain_blocks files ++ in_rounds n (map sample_blocks files)

-- each line with the LF (10) that ends it
abbrev pub lines_text : List (List ℕ) → List ℕ
lines_text lines = flat_map (λ line. line ++ 10 ∷ []) lines

abbrev pub block_text : Block → List ℕ
block_text b = lines_text (lines_of_block b)

-- The files as one: a blank line stands between two blocks.
unfoldable pub turns_of : ℕ → List (List ℕ) → List ℕ
turns_of n files = join_with_byte 10 (map block_text (blocks_in_turns n files))

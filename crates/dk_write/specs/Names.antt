-- Texts that are read as they stand: as a line, and as a word of one.
use Rattle.std.specs.Prelude.{◌&&◌, ◌-◌, ◌==◌, ℕ, Bool, not, List, length, slice_index}
use Rattle.std.specs.List.{list_all}
use Rattle.dk_base.specs.Pieces.{is_blank, is_empty}

-- none of the bytes is this one
abbrev pub has_none : ℕ → List ℕ → Bool
has_none byte text = list_all (λ b. not (b == byte)) text

abbrev pub last_byte : List ℕ → ℕ
last_byte text = slice_index text (length text - 1)

-- A text that stands as a line, or at the end of one: it has bytes, none of them LF (10), neither a blank nor a tab at an end, and no CR (13) as
-- the last.
unfoldable pub is_line : List ℕ → Bool
is_line text =
    not (is_empty text)
    && (has_none 10 text && (not (is_blank (slice_index text 0)) && (not (is_blank (last_byte text)) && not (last_byte text == 13))))

-- one that stands as a word, too: no byte is a blank (32) or a tab (9)
unfoldable pub is_word : List ℕ → Bool
is_word text = is_line text && (has_none 32 text && has_none 9 text)

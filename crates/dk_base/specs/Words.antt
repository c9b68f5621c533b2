-- The words of a line.
pub mod WordLaws
use Rattle.std.specs.Prelude.{ℕ, List, [], ◌∷◌, drop, reverse, take, if◌then◌else◌}
use Rattle.std.specs.List.{position_or_len}
use Rattle.dk_base.specs.Pieces.{pieces}
pub use Rattle.dk_base.specs.Pieces.{is_blank, is_empty}
use Rattle.dk_base.specs.declared.splitting.Cut.TheVariants.{AtBlanksAndTabs}

-- without the blanks and tabs at its front
abbrev pub without_front : List ℕ → List ℕ
without_front [] = []
without_front (b ∷ bs) = if is_blank b then without_front bs else b ∷ bs

-- without the blanks and tabs at its two ends
abbrev pub trim_blanks : List ℕ → List ℕ
trim_blanks bytes = reverse (without_front (reverse (without_front bytes)))

-- how many bytes stand in front of the first blank or tab
abbrev pub word_len : List ℕ → ℕ
word_len bytes = position_or_len is_blank bytes

-- the first word, of a line that begins with no blank or tab
abbrev pub first_word : List ℕ → List ℕ
first_word bytes = take (word_len bytes) bytes

-- what follows the first word and the blanks and tabs behind it
abbrev pub rest_of_line : List ℕ → List ℕ
rest_of_line bytes = without_front (drop (word_len bytes) bytes)

-- the words: the longest runs of bytes that are neither blank nor tab
abbrev pub words : List ℕ → List (List ℕ)
words bytes = pieces AtBlanksAndTabs bytes

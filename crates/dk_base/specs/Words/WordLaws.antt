-- What words are, in a sentence of their own.
use Rattle.std.specs.Prelude.{◌≡◌, ℕ, List, filter, not}
use Rattle.std.specs.List.{slice_split}
use Rattle.dk_base.specs.Words.{is_blank, is_empty, words}

-- the words of a line are the parts between its blanks and tabs that are not empty
abbrev pub WordsArePartsBetweenBlanks : Type 0
WordsArePartsBetweenBlanks = (bytes : List ℕ) → words bytes ≡ filter (λ part. not (is_empty part)) (slice_split is_blank bytes)

-- The words of a line, and lines that are read one after another.
use Rattle.std.specs.Prelude.{ℕ, Bool, List, [], ◌∷◌, Result, Ok}
use Rattle.std.specs.Str.{bytes_eq}
use Rattle.dk_base.specs.Reading.{Line, LineFault, ◌>>=◌}
use Rattle.dk_base.specs.Words.{first_word, rest_of_line, words}

-- the line's first word is this one
unfoldable pub begins : List ℕ → List ℕ → Bool
begins word bytes = bytes_eq (first_word bytes) word

-- what stands behind the first word
unfoldable pub operand : List ℕ → List ℕ
operand bytes = rest_of_line bytes

-- the words behind the first
unfoldable pub operands : List ℕ → List (List ℕ)
operands bytes = words (rest_of_line bytes)

-- one line after another, up to the first fault
abbrev pub each_line : {S : Type 0} → (S → Line → Result S LineFault) → S → List Line → Result S LineFault
each_line read s [] = Ok s
each_line read s (l ∷ ls) = read s l >>= λ next. each_line read next ls

-- A comparability word holds from its line on.
use Rattle.std.specs.Prelude.{◌≡◌, ◌++◌, ℕ, Bool, false, List, [], ◌∷◌, codes, option_and_then, Option, Some, None, Result, Ok, Err, if◌then◌else◌}
use Rattle.std.specs.List.{last_or}
use Rattle.std.specs.Option.{option_to_list}
use Rattle.std.specs.Str.{bytes_eq}
use Rattle.dk_base.specs.declared.why.Why.{Why}
use Rattle.dk_decl.specs.Headers.{awaits_word, comparability_word, header_line, is_implicit}
use Rattle.dk_decl.specs.LineWords.{begins, operand}
use Rattle.dk_decl.specs.declared.header.Header.{Header}

abbrev pub header_taken : Option (Result Header Why) → Option Header
header_taken (Some (Ok h)) = Some h
header_taken (Some (Err why)) = None
header_taken None = None

-- what these header lines leave in force, if each of them is a header line and is taken
abbrev pub header_after : Header → List (List ℕ) → Option Header
header_after h [] = Some h
header_after h (line ∷ lines) = option_and_then (λ next. header_after next lines) (header_taken (header_line h line))

-- the word that a header line says
abbrev pub word_in : List ℕ → List Bool
word_in line = if begins (codes "var-comparability") line then option_to_list (comparability_word (operand line)) else []

-- the words that these header lines say, in order; behind `VarComparability` a line is a word
abbrev pub words_said : Bool → List (List ℕ) → List Bool
words_said awaited [] = []
words_said awaited (line ∷ lines) =
    if awaited then option_to_list (comparability_word line) ++ words_said false lines
    else word_in line ++ words_said (bytes_eq line (codes "VarComparability")) lines

-- the last word that was said holds, or the one before
abbrev pub LastWordHolds : Type 0
LastWordHolds = (h last : Header) (lines : List (List ℕ)) → header_after h lines ≡ Some last
    → Some (is_implicit last) ≡ last_or (Some (is_implicit h)) (words_said (awaits_word h) lines)

-- Names that nothing else in a text can be taken for.
use Rattle.std.specs.Prelude.{◌==◌, ◌&&◌, ◌||◌, ℕ, nat_le, Bool, false, not, List, [], ◌∷◌, codes}
use Rattle.std.specs.List.{list_all, list_any}
use Rattle.std.specs.Str.{bytes_eq}

-- a digit (48 to 57) or a minus (45)
abbrev pub is_number_start : ℕ → Bool
is_number_start b = (nat_le 48 b && nat_le b 57) || b == 45

-- the text has no blank (32)
abbrev pub is_solid : List ℕ → Bool
is_solid text = list_all (λ b. not (b == 32)) text

-- the words that stand for values
abbrev pub is_value_word : List ℕ → Bool
is_value_word text = list_any (bytes_eq text) (codes "null" ∷ codes "true" ∷ codes "false" ∷ [])

-- a plain name isn't empty, has no blank, begins neither like a number nor with a quote (34), and is no word for a value
abbrev pub is_plain_name : List ℕ → Bool
is_plain_name [] = false
is_plain_name (b ∷ bs) = (not (is_number_start b) && not (b == 34)) && (is_solid (b ∷ bs) && not (is_value_word (b ∷ bs)))

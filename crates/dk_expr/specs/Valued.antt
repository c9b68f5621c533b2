-- The texts of values, and where they end.
use Rattle.std.specs.Prelude.{◌≡◌, ◌+◌, ◌==◌, ◌&&◌, ◌||◌, ℕ, Bool, true, false, not, List, [], ◌∷◌, if◌then◌else◌}
use Rattle.std.specs.List.{list_all, position_or_len}
use Rattle.dk_base.specs.Values.Items.{closes_quote}
use Rattle.dk_expr.specs.Readable.{ends_number}

-- how many bytes there are up to the first quote (34) that no backslash (92) takes with it, the quote included
abbrev pub quoted_end : Bool → List ℕ → ℕ
quoted_end escaped [] = 0
quoted_end escaped (b ∷ bs) = if not escaped && b == 34 then 1 else quoted_end (not escaped && b == 92) bs + 1

-- how many bytes the value in front takes: a quoted string, or all up to what ends a number
abbrev pub value_end : List ℕ → ℕ
value_end [] = 0
value_end (b ∷ bs) = if b == 34 then 1 + quoted_end false bs else position_or_len ends_number (b ∷ bs)

-- a text in quotes, or one of which no byte is a quote in front or ends a number
abbrev pub is_value_text : List ℕ → Bool
is_value_text [] = false
is_value_text (b ∷ bs) = if b == 34 then closes_quote false bs else list_all (λ c. not (ends_number c)) (b ∷ bs)

abbrev pub IsValueText : List ℕ → Type 0
IsValueText text = is_value_text text ≡ true

-- a comma (44) or a blank (32), or nothing, is behind a value
abbrev pub begins_behind_value : List ℕ → Bool
begins_behind_value [] = true
begins_behind_value (b ∷ bs) = b == 44 || b == 32

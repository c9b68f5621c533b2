-- The word of a state and what it tells behind it.
use Rattle.std.specs.Prelude.{ℕ, List, [], ◌∷◌, codes, map, if◌then◌else◌}
use Rattle.std.specs.Fmt.{decimal, signed_decimal}
use Rattle.std.specs.Str.{bytes_eq}
use Rattle.dk_base.specs.Values.Spelling.{bool_text, hash_text}
use Rattle.dk_forms.specs.declared.states.State.{State}
use Rattle.dk_forms.specs.declared.states.State.TheVariants as state
use Rattle.dk_state.specs.declared.reading_states.Word.{Word}
use Rattle.dk_state.specs.declared.reading_states.Word.TheVariants as word

-- the word that a text is
abbrev pub state_word_in : List ℕ → Word
state_word_in text =
    if bytes_eq text (codes "empty") then word.Empty
    else if bytes_eq text (codes "holds") then word.Holds
    else if bytes_eq text (codes "least") then word.Least
    else if bytes_eq text (codes "greatest") then word.Greatest
    else if bytes_eq text (codes "ints") then word.Ints
    else if bytes_eq text (codes "truth") then word.Truth
    else if bytes_eq text (codes "code") then word.Code
    else if bytes_eq text (codes "texts") then word.Texts
    else if bytes_eq text (codes "one") then word.One
    else if bytes_eq text (codes "modulus") then word.Modulus
    else if bytes_eq text (codes "spot") then word.Spot
    else if bytes_eq text (codes "straight") then word.Straight
    else if bytes_eq text (codes "span") then word.Span
    else if bytes_eq text (codes "plane") then word.Plane
    else if bytes_eq text (codes "offset") then word.Offset
    else word.Other

abbrev pub state_word : State → Word
state_word state.Empty = word.Empty
state_word state.Broken = word.Other
state_word state.Holds = word.Holds
state_word (state.Least k) = word.Least
state_word (state.Greatest k) = word.Greatest
state_word (state.Ints ks) = word.Ints
state_word (state.Truth b) = word.Truth
state_word (state.Code h) = word.Code
state_word (state.Texts ts) = word.Texts
state_word (state.One k) = word.One
state_word (state.Modulus m r) = word.Modulus
state_word (state.Spot x y) = word.Spot
state_word (state.Straight a b c) = word.Straight
state_word (state.Span x1 y1 z1 x2 y2 z2) = word.Span
state_word (state.Plane a b c d) = word.Plane
state_word (state.Offset k) = word.Offset

-- the fields behind the word
abbrev pub told_fields : State → List (List ℕ)
told_fields state.Empty = []
told_fields state.Broken = []
told_fields state.Holds = []
told_fields (state.Least k) = signed_decimal k ∷ []
told_fields (state.Greatest k) = signed_decimal k ∷ []
told_fields (state.Ints ks) = map signed_decimal ks
told_fields (state.Truth b) = bool_text b ∷ []
told_fields (state.Code h) = hash_text h ∷ []
told_fields (state.Texts ts) = ts
told_fields (state.One k) = signed_decimal k ∷ []
told_fields (state.Modulus m r) = decimal m ∷ decimal r ∷ []
told_fields (state.Spot x y) = signed_decimal x ∷ signed_decimal y ∷ []
told_fields (state.Straight a b c) = signed_decimal a ∷ signed_decimal b ∷ signed_decimal c ∷ []
told_fields (state.Span x1 y1 z1 x2 y2 z2) =
    signed_decimal x1 ∷ signed_decimal y1 ∷ signed_decimal z1 ∷ signed_decimal x2 ∷ signed_decimal y2 ∷ signed_decimal z2 ∷ []
told_fields (state.Plane a b c d) = signed_decimal a ∷ signed_decimal b ∷ signed_decimal c ∷ signed_decimal d ∷ []
told_fields (state.Offset k) = signed_decimal k ∷ []

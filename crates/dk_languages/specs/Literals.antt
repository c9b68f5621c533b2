-- Values as literals.
pub mod Escapes
pub mod Numbers
use Rattle.std.specs.Prelude.{◌==◌, ◌++◌, ◌/◌, ◌%◌, ◌+◌, ◌&&◌, ℕ, nat_le, nat_lt, Bool, true, false, not, List, [], ◌∷◌, codes, flat_map, map, if◌then◌else◌}
use Rattle.std.specs.List.{list_all}
use Rattle.std.specs.Fmt.{digits}
use Rattle.std.specs.Str.{bytes_eq}
use Rattle.dk_forms.specs.declared.states.State.{State}
use Rattle.dk_forms.specs.declared.states.State.TheVariants as state
use Rattle.dk_languages.specs.declared.languages.Language.{Language}
use Rattle.dk_languages.specs.declared.languages.Language.TheVariants as language
use Rattle.dk_languages.specs.Literals.Escapes.{has_known_escapes}
use Rattle.dk_languages.specs.Literals.Numbers.{number_text}

-- ---- truth values
abbrev pub truth_text : Language → Bool → List ℕ
truth_text language.Python b = if b then codes "True" else codes "False"
truth_text _ b = if b then codes "true" else codes "false"

-- ---- strings, as they are spelled in a trace
abbrev pub is_null : List ℕ → Bool
is_null text = bytes_eq text (codes "null")

abbrev pub is_ascii_text : List ℕ → Bool
is_ascii_text text = list_all (λ b. nat_lt b 128) text

-- a backslash and three octal digits
abbrev pub octal : ℕ → List ℕ
octal b = 92 ∷ (48 + b / 64) ∷ (48 + b / 8 % 8) ∷ (48 + b % 8) ∷ []

-- in Python a byte that isn't ASCII is escaped, in bytes that are decoded
abbrev pub python_byte : ℕ → List ℕ
python_byte b = if nat_lt b 128 then b ∷ [] else octal b

abbrev pub python_string : List ℕ → List ℕ
python_string text =
    if is_ascii_text text then text
    else codes "b" ++ flat_map python_byte text ++ codes ".decode(\"utf-8\", \"surrogateescape\")"

-- in C a question mark (63) is escaped, so that none belongs to a trigraph
abbrev pub c_byte : ℕ → List ℕ
c_byte b = if b == 63 then codes "\\?" else b ∷ []

-- in SMT-LIB a quote is doubled, and a byte that isn't seen, isn't ASCII or is a backslash (92) is the character of its number
abbrev pub smtlib_byte : ℕ → List ℕ
smtlib_byte b =
    if b == 34 then codes "\"\""
    else if nat_le 32 b && (nat_lt b 127 && not (b == 92)) then b ∷ []
    else codes "\\u{" ++ digits 16 false b ++ codes "}"

-- A string is None in Python and 0 in C where it is null; in SMT-LIB it is its spelling, also there.
abbrev pub string_text : Language → List ℕ → List ℕ
string_text language.Python text = if is_null text then codes "None" else python_string text
string_text language.C text = if is_null text then codes "0" else flat_map c_byte text
string_text language.Smtlib text = codes "\"" ++ flat_map smtlib_byte text ++ codes "\""

-- ---- the values of a state
abbrev pub literals : Language → State → List (List ℕ)
literals l (state.Ints ks) = map (number_text l) ks
literals l (state.Truth b) = truth_text l b ∷ []
literals l (state.Texts ts) = map (string_text l) ts
literals l _ = []

-- what the language can write
abbrev pub has_string : Language → List ℕ → Bool
has_string language.Smtlib text = true
has_string _ text = has_known_escapes text

-- The language can say what is known: the state says something, and its strings are ones that the language has. Of a hash code it can be
-- said only that it is null.
abbrev pub can_say : Language → State → Bool
can_say l state.Holds = true
can_say l (state.Least k) = true
can_say l (state.Greatest k) = true
can_say l (state.Ints ks) = true
can_say l (state.Truth b) = true
can_say l (state.Code h) = h == 0
can_say l (state.Texts ts) = list_all (has_string l) ts
can_say l (state.Modulus m r) = true
can_say l (state.Straight a b c) = true
can_say l (state.Plane a b c d) = true
can_say l (state.Offset k) = true
can_say l _ = false

-- Numbers in a state, and their texts.
use Rattle.std.specs.Prelude.{◌^◌, ◌/◌, ◌%◌, ◌++◌, ℕ, ℤ, pos, int_lt, nat_lt, unsigned_abs, List, [], ◌∷◌, codes, slice_index_or, if◌then◌else◌}
use Rattle.std.specs.Fmt.{decimal, signed_decimal}
use Rattle.dk_forms.specs.declared.states.State.{State}
use Rattle.dk_forms.specs.declared.states.State.TheVariants as state
use Rattle.dk_languages.specs.declared.languages.Language.{Language}
use Rattle.dk_languages.specs.declared.languages.Language.TheVariants as language

-- the numbers of a state, in order; values are none
abbrev pub numbers_in : State → List ℤ
numbers_in (state.Least k) = k ∷ []
numbers_in (state.Greatest k) = k ∷ []
numbers_in (state.Modulus m r) = pos m ∷ pos r ∷ []
numbers_in (state.Straight a b c) = a ∷ b ∷ c ∷ []
numbers_in (state.Plane a b c d) = a ∷ b ∷ c ∷ d ∷ []
numbers_in (state.Offset k) = k ∷ []
numbers_in _ = []

abbrev pub number_in : State → ℕ → ℤ
number_in s place = slice_index_or (numbers_in s) place (pos 0)

abbrev pub minus_of : ℤ → List ℕ
minus_of z = if int_lt z (pos 0) then codes "-" else []

-- C has no literal of more than 64 bits: the two halves of the size
abbrev pub wide_text : ℤ → List ℕ
wide_text z =
    minus_of z ++ codes "dk_wide(" ++ decimal (unsigned_abs z / 2 ^ 64) ++ codes "u, " ++ decimal (unsigned_abs z % 2 ^ 64) ++ codes "u)"

abbrev pub number_text : Language → ℤ → List ℕ
number_text language.Python z = signed_decimal z
number_text language.C z = if nat_lt (unsigned_abs z) (2 ^ 63) then signed_decimal z else wide_text z
number_text language.Smtlib z = if int_lt z (pos 0) then codes "(- " ++ decimal (unsigned_abs z) ++ codes ")" else signed_decimal z

-- What parts write, as tokens.
use Prim.Native.String.{String}
use Rattle.std.specs.Prelude.{◌++◌, ℕ, List, [], ◌∷◌, codes, flat_map, map}
use Rattle.dk_print.specs.Parts.{Part, word, named, bound, values, null_or, remainder, modulus, lead, term, constant, step}
use Rattle.dk_print.proofs.Tokens.{Token, letter, called, numeral, plus_or_minus, anything}

abbrev pub letters : List ℕ → List Token
letters bytes = map letter bytes

abbrev pub saying : String → List Token
saying literal = letters (codes literal)

-- the sign of a number
abbrev pub signed : List Token
signed = letter 32 ∷ plus_or_minus ∷ letter 32 ∷ []

-- a name times a number; a name with a factor, which is left out where it is 1
abbrev pub times : ℕ → List Token
times role = numeral ∷ (saying " * " ++ called role ∷ [])

abbrev pub factored : ℕ → List (List Token)
factored role = (called role ∷ []) ∷ times role ∷ []

-- the forms that a part's text may have
abbrev pub forms_of : Part → List (List Token)
forms_of (word bytes) = letters bytes ∷ []
forms_of (named role) = (called role ∷ []) ∷ []
forms_of bound = (numeral ∷ []) ∷ []
forms_of values =
    []
    ∷ (saying " == " ++ numeral ∷ [])
    ∷ saying " == true"
    ∷ saying " == false"
    ∷ saying " == null"
    ∷ (saying " == \"" ++ anything ∷ [])
    ∷ (saying " one of { " ++ anything ∷ [])
    ∷ []
forms_of (null_or bytes) = saying " == null" ∷ letters bytes ∷ []
forms_of remainder = (numeral ∷ []) ∷ []
forms_of modulus = (numeral ∷ []) ∷ []
forms_of (lead role) = factored role
forms_of (term role) = map (λ ts. signed ++ ts) (factored role)
forms_of constant = [] ∷ (signed ++ numeral ∷ []) ∷ []
forms_of step = (signed ++ numeral ∷ []) ∷ []

-- the forms that a text of parts may have
abbrev pub lines_of : List Part → List (List Token)
lines_of [] = [] ∷ []
lines_of (p ∷ ps) = flat_map (λ a. map (λ b. a ++ b) (lines_of ps)) (forms_of p)

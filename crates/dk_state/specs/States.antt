-- States, as they are saved.
use Rattle.std.specs.Prelude.{ℕ, List, [], ◌∷◌, codes, map}
use Rattle.std.specs.Fmt.{decimal, signed_decimal}
use Rattle.dk_base.specs.Values.Spelling.{bool_text, hash_text}
use Rattle.dk_forms.specs.declared.states.State.{State}
use Rattle.dk_forms.specs.declared.states.State.TheVariants as state

-- The word of a state and what it has to tell, field by field. No slot is broken.
abbrev pub state_fields : State → List (List ℕ)
state_fields state.Empty = codes "empty" ∷ []
state_fields state.Broken = codes "broken" ∷ []
state_fields state.Holds = codes "holds" ∷ []
state_fields (state.Least k) = codes "least" ∷ signed_decimal k ∷ []
state_fields (state.Greatest k) = codes "greatest" ∷ signed_decimal k ∷ []
state_fields (state.Ints ks) = codes "ints" ∷ map signed_decimal ks
state_fields (state.Truth b) = codes "truth" ∷ bool_text b ∷ []
state_fields (state.Code h) = codes "code" ∷ hash_text h ∷ []
state_fields (state.Texts ts) = codes "texts" ∷ ts
state_fields (state.One k) = codes "one" ∷ signed_decimal k ∷ []
state_fields (state.Modulus m r) = codes "modulus" ∷ decimal m ∷ decimal r ∷ []
state_fields (state.Spot x y) = codes "spot" ∷ signed_decimal x ∷ signed_decimal y ∷ []
state_fields (state.Straight a b c) = codes "straight" ∷ signed_decimal a ∷ signed_decimal b ∷ signed_decimal c ∷ []
state_fields (state.Span x1 y1 z1 x2 y2 z2) =
    codes "span" ∷ signed_decimal x1 ∷ signed_decimal y1 ∷ signed_decimal z1 ∷ signed_decimal x2 ∷ signed_decimal y2 ∷ signed_decimal z2
    ∷ []
state_fields (state.Plane a b c d) = codes "plane" ∷ signed_decimal a ∷ signed_decimal b ∷ signed_decimal c ∷ signed_decimal d ∷ []
state_fields (state.Offset k) = codes "offset" ∷ signed_decimal k ∷ []

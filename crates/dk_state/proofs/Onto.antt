-- The fields of a line, one after another in front of what is left.
use Rattle.std.specs.Prelude.{◌≡◌, ◌++◌, ◌∷◌, [], ℕ, List, codes, flat_map, map, refl}
use Rattle.std.proofs.Common.{◌∙◌, ap, append_assoc}
use Rattle.dk_state.specs.Lines.{behind_blank, fields_text}

abbrev pub fields_onto : List (List ℕ) → List ℕ → List ℕ
fields_onto [] rest = rest
fields_onto (f ∷ fs) rest = behind_blank f ++ fields_onto fs rest

pub fields_text_onto : (fs : List (List ℕ)) (rest : List ℕ) → fields_text fs ++ rest ≡ fields_onto fs rest
fields_text_onto [] rest = refl
fields_text_onto (f ∷ fs) rest = append_assoc (behind_blank f) (fields_text fs) rest ∙ ap (λ r. behind_blank f ++ r) (fields_text_onto fs rest)

-- a line of these fields
pub line_onto : (word : List ℕ) (fs : List (List ℕ)) (rest : List ℕ) → (word ++ (fields_text fs ++ codes "\n")) ++ rest ≡ word ++ fields_onto fs (10 ∷ rest)
line_onto word fs rest =
    append_assoc word (fields_text fs ++ codes "\n") rest
    ∙ ap (λ r. word ++ r) (append_assoc (fields_text fs) (codes "\n") rest ∙ fields_text_onto fs (10 ∷ rest))

-- fields of items
pub fields_of_items : {X : Type 0} (field : X → List ℕ) (xs : List X) → fields_text (map field xs) ≡ flat_map (λ x. behind_blank (field x)) xs
fields_of_items field [] = refl
fields_of_items field (x ∷ xs) = ap (λ r. behind_blank (field x) ++ r) (fields_of_items field xs)

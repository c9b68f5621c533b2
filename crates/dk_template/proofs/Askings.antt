-- What premises ask.
use Rattle.std.specs.Prelude.{◌≡◌, ◌&&◌, ◌||◌, ◌==◌, ℕ, true, false, not, List, [], ◌∷◌, length, map, take, refl}
use Rattle.std.proofs.Common.{ap, ◌∙◌, arith, sym, inl, inr, subst, get_or}
use Rattle.std.proofs.lemmas.Bool.{eqb-true, false≢true, or_cases}
use Rattle.std.proofs.lemmas.List.{take-map}
use Rattle.dk_template.specs.Premises.{MayWantMemory, is_formed, is_laid_out, row_of}
use Rattle.dk_template.specs.Templates.{form_of, is_plain, rows}
use Rattle.dk_template.specs.declared.answers.Premise.{Premise}
use Rattle.dk_template.specs.declared.answers.Premise.TheVariants.{Holds, LeastAtLeast, GreatestAtMost, Only}
use Rattle.dk_template.specs.declared.grammar.RowId.{RowId}

-- ---- no premise asks a row that may want memory
abbrev row : ℕ → RowId
row n = record { 0 = n }

at_row : (P : RowId → Type 0) (n : ℕ) → P (row n) → (r : RowId) → (r.0 == n) ≡ true → P r
at_row P n p r same = subst P (ap row (sym (eqb-true r.0 n same))) p

-- what holds of each row that may want memory
by_row : (P : RowId → Type 0) → P (row 9) → P (row 47) → P (row 48) → P (row 51) → P (row 65) → (r : RowId) → MayWantMemory r → P r
by_row P a b c d e r h = elim (or_cases (r.0 == 9) (r.0 == 47 || (r.0 == 48 || (r.0 == 51 || (r.0 == 65 || false)))) h) [
  | inl i ↦ at_row P 9 a r i
  | inr h2 ↦ elim (or_cases (r.0 == 47) (r.0 == 48 || (r.0 == 51 || (r.0 == 65 || false))) h2) [
    | inl i ↦ at_row P 47 b r i
    | inr h3 ↦ elim (or_cases (r.0 == 48) (r.0 == 51 || (r.0 == 65 || false)) h3) [
      | inl i ↦ at_row P 48 c r i
      | inr h4 ↦ elim (or_cases (r.0 == 51) (r.0 == 65 || false) h4) [
        | inl i ↦ at_row P 51 d r i
        | inr h5 ↦ elim (or_cases (r.0 == 65) false h5) [ inl i ↦ at_row P 65 e r i | inr i ↦ absurd (false≢true i) ]
      ]
    ]
  ]
]

not_held : (r : RowId) → MayWantMemory r → (is_plain (form_of r) && not (is_laid_out r)) ≡ false
unfolding rows
not_held = by_row (λ r. (is_plain (form_of r) && not (is_laid_out r)) ≡ false) refl refl refl refl refl

not_least : (r : RowId) → MayWantMemory r → (r.0 == 2 || r.0 == 36) ≡ false
not_least = by_row (λ r. (r.0 == 2 || r.0 == 36) ≡ false) refl refl refl refl refl

not_greatest : (r : RowId) → MayWantMemory r → (r.0 == 3 || r.0 == 37) ≡ false
not_greatest = by_row (λ r. (r.0 == 3 || r.0 == 37) ≡ false) refl refl refl refl refl

-- a premise asks no row that may want memory
pub premise_quiet : (p : Premise) → is_formed p ≡ true → MayWantMemory (row_of p) → ⊥
premise_quiet (Holds r roles) formed wants = false≢true (sym (not_held r wants) ∙ formed)
premise_quiet (LeastAtLeast r role k) formed wants = false≢true (sym (not_least r wants) ∙ formed)
premise_quiet (GreatestAtMost r role k) formed wants = false≢true (sym (not_greatest r wants) ∙ formed)
premise_quiet (Only role k) formed wants = false≢true wants

-- ---- the variables that it asks about
-- a map over a list of three, one by one
three_read : {X : Type 0} (f : ℕ → X) (roles : List ℕ) → length roles ≡ 3 → (a b c : X) → a ≡ f (get_or roles 0 0) → b ≡ f (get_or roles 1 0) → c ≡ f (get_or roles 2 0) → a ∷ b ∷ c ∷ [] ≡ map f roles
three_read f [] long a b c ea eb ec = absurd (omega (arith, long))
three_read f (r ∷ []) long a b c ea eb ec = absurd (omega (arith, long))
three_read f (r ∷ s ∷ []) long a b c ea eb ec = absurd (omega (arith, long))
three_read f (r ∷ s ∷ t ∷ []) long a b c ea eb ec = ap (λ x. x ∷ b ∷ c ∷ []) ea ∙ (ap (λ x. f r ∷ x ∷ c ∷ []) eb ∙ ap (λ x. f r ∷ f s ∷ x ∷ []) ec)
three_read f (r ∷ s ∷ t ∷ u ∷ roles) long a b c ea eb ec = absurd (omega (arith, long))

-- the first of them
pub first_read : {X : Type 0} (f : ℕ → X) (roles : List ℕ) → length roles ≡ 3 → (a b c : X) → a ≡ f (get_or roles 0 0) → b ≡ f (get_or roles 1 0) → c ≡ f (get_or roles 2 0) → (n : ℕ) → take n (a ∷ b ∷ c ∷ []) ≡ map f (take n roles)
first_read f roles long a b c ea eb ec n = ap (take n) (three_read f roles long a b c ea eb ec) ∙ take-map f n roles

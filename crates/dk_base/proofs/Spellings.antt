-- Names and their spelling, byte by byte.
use Rattle.std.proofs.Common.{◌≡◌, ◌≢◌, ◌↔◌, ◌<◌, ◌+◌, ◌∷◌, ◌++◌, [], ℕ, suc, Bool, true, false, List, All, IsTrue, refl, sym, ap, ◌∙◌, if◌then◌else◌, drop, get_or, length, arith}
use Rattle.std.proofs.lemmas.Bool.{eqb-true, eqb-false, cond_both}
use Rattle.std.proofs.lemmas.List.{drop_more}
use Rattle.std.proofs.lemmas.List.Elements.{All-nil, All-cons, All-append}
use Rattle.std.proofs.lemmas.List.Folds.{list_any_at}
use Rattle.std.specs.List.{list_any}
use Rattle.std.specs.Prelude.{◌==◌, nat_eq}
use Rattle.dk_base.specs.Names.{escaped, escaped_byte, unescaped}

-- a byte that is no backslash stands for itself
plain_byte : (b : ℕ) (bs : List ℕ) → (b == 92) ≡ false → unescaped (b ∷ bs) ≡ b ∷ unescaped bs
unfolding unescaped
plain_byte b [] h = refl
plain_byte b (c ∷ bs) h = rw h refl

is_other : (b : ℕ) → b ≢ 92 → (b == 92) ≡ false
is_other b other = go (b == 92) refl
  where
    go : (x : Bool) → (b == 92) ≡ x → (b == 92) ≡ false
    go true e = absurd (other (eqb-true b 92 e))
    go false e = e

-- a spelling without a backslash is its name
pub plain : (text : List ℕ) → ((k : ℕ) → k < length text → get_or text k 0 ≢ 92) → unescaped text ≡ text
unfolding unescaped
plain [] other = refl
plain (b ∷ bs) other = plain_byte b bs (is_other b (other 0 (omega arith))) ∙ ap (λ cs. b ∷ cs) (plain bs (λ k lt. other (suc k) (omega arith)))

pub plain_without : (text : List ℕ) → list_any (λ b. nat_eq b 92) text ≡ false → unescaped text ≡ text
plain_without text none = plain text (λ k lt is.
    let found : list_any (λ b. nat_eq b 92) text ≡ true = list_any_at (λ b. nat_eq b 92) text k 0 lt (ap (λ (b : ℕ). nat_eq b 92) is) in
    let never : true ≡ false = sym found ∙ none in
    absurd (cc never))

pub as_spelled : (text name : List ℕ) → text ≡ name → unescaped text ≡ text → unescaped text ≡ name
as_spelled text name same means = means ∙ same

first_spelled : (b : ℕ) (rest : List ℕ) → unescaped (escaped_byte b ++ rest) ≡ b ∷ unescaped rest
unfolding unescaped
first_spelled b rest = go (b == 32) (b == 92) refl refl
  where
    go : (x y : Bool) → (b == 32) ≡ x → (b == 92) ≡ y
        → unescaped ((if x then 92 ∷ 95 ∷ [] else if y then 92 ∷ 92 ∷ [] else b ∷ []) ++ rest) ≡ b ∷ unescaped rest
    go true y e f = ap (λ c. c ∷ unescaped rest) (sym (eqb-true b 32 e))
    go false true e f = ap (λ c. c ∷ unescaped rest) (sym (eqb-true b 92 f))
    go false false e f = plain_byte b rest f

-- a spelling means its name
pub unescaped_of_escaped : (name : List ℕ) → unescaped (escaped name) ≡ name
unfolding unescaped
unescaped_of_escaped [] = refl
unescaped_of_escaped (b ∷ bs) = first_spelled b (escaped bs) ∙ ap (λ cs. b ∷ cs) (unescaped_of_escaped bs)

abbrev NoBlank : ℕ → Type 0
NoBlank b = b ≢ 32

no_blank_first : (b : ℕ) → All NoBlank (escaped_byte b)
no_blank_first b =
    let one : (c : ℕ) → (c ≡ 32 → ⊥) → All NoBlank (c ∷ []) = λ c h. All-cons NoBlank c [] h (All-nil NoBlank) in
    cond_both (b == 32) (92 ∷ 95 ∷ []) (if b == 92 then 92 ∷ 92 ∷ [] else b ∷ []) (All NoBlank)
    (λ e. All-cons NoBlank 92 (95 ∷ []) (λ f. absurd (omega arith)) (one 95 (λ f. absurd (omega arith))))
    (λ e. cond_both (b == 92) (92 ∷ 92 ∷ []) (b ∷ []) (All NoBlank)
    (λ f. All-cons NoBlank 92 (92 ∷ []) (λ g. absurd (omega arith)) (one 92 (λ g. absurd (omega arith))))
    (λ f. one b (eqb-false b 32 e)))

-- a spelling has no blank
pub no_blank_in_escaped : (name : List ℕ) → All (λ b. b ≢ 32) (escaped name)
no_blank_in_escaped [] = All-nil NoBlank
no_blank_in_escaped (b ∷ bs) = All-append NoBlank (escaped_byte b) (escaped bs) (no_blank_first b) (no_blank_in_escaped bs)

-- a name goes on where the spelling has ended
pub ended_early : (left text name : List ℕ) (i : ℕ) → i < length name → ((unescaped left ≡ drop i name) ↔ (unescaped text ≡ name)) → unescaped left ≡ []
    → (IsTrue false → unescaped text ≡ name) × (unescaped text ≡ name → IsTrue false)
ended_early left text name i lt same ended =
    (λ h. cc, λ e. let here : [] ≡ get_or name i 0 ∷ drop (i + 1) name = sym ended ∙ same.1 e ∙ drop_more name i 0 lt in cc)

-- Lines of verdicts.
use Rattle.std.specs.Prelude.{◌≡◌, ◌++◌, ℕ, List, Result, Ok, Err, OnOk, codes}
use Rattle.std.proofs.Common.{◌∙◌, ap, append_assoc, sym}

-- what holds where a call succeeds
pub on_ok : {A E : Type 0} (r : Result A E) (P Q : Type 0) → (P → Q) → OnOk r P → OnOk r Q
on_ok (Ok x) P Q f h = f h
on_ok (Err e) P Q f h = tt

pub violated_text : (text a b c d number file : List ℕ) (name : ℕ → List ℕ) (place line : ℕ) → a ≡ text ++ codes "violated at " → b ≡ a ++ file → c ≡ b ++ codes ":" → d ≡ c ++ number → name place ≡ file
    → d ≡ text ++ (codes "violated at " ++ name place ++ codes ":" ++ number)
violated_text text a b c d number file name place line first second third last named =
    last
    ∙ ap (λ (l : List ℕ). l ++ number) (third ∙ ap (λ (l : List ℕ). l ++ codes ":") (second ∙ ap (λ (l : List ℕ). l ++ file) first))
    ∙ ap (λ (l : List ℕ). (((text ++ codes "violated at ") ++ l) ++ codes ":") ++ number) (sym named)
    ∙ ap (λ (l : List ℕ). (l ++ codes ":") ++ number) (append_assoc text (codes "violated at ") (name place))
    ∙ ap (λ (l : List ℕ). l ++ number) (append_assoc text (codes "violated at " ++ name place) (codes ":"))
    ∙ append_assoc text (codes "violated at " ++ name place ++ codes ":") number

-- What is found behind all parts of a text.
use Rattle.std.specs.Prelude.{◌≡◌, ◌+◌, ◌||◌, ℕ, Bool, true, false, List, [], ◌∷◌, drop, length, refl}
use Rattle.std.specs.List.{list_any}
use Rattle.std.proofs.Common.{◌∙◌, ap, sym}
use Rattle.std.proofs.lemmas.Bool.{and_parts, false≢true}
use Rattle.std.proofs.lemmas.List.{drop-drop, drop_at}
use Rattle.dk_base.specs.declared.kinds.VarId.{VarId}
use Rattle.dk_forms.specs.declared.states.State.{State}
use Rattle.dk_print.specs.Parts.{Part, word, named, bound, values, null_or, remainder, modulus, lead, term, constant, step, part_text, text_by}
use Rattle.dk_expr.specs.Following.{all_followed, followed, marked}
use Rattle.dk_expr.specs.Readable.{are_ended, is_ended}
use Rattle.dk_expr.specs.declared.found.Parsed.{Parsed}

module _ (text : List ℕ) (names : List (List ℕ)) (vars : List VarId) (s : State) where
  -- a part tells nothing of how much is read
  at_kept : (p : Part) (f : Parsed) → (marked vars s p f).at ≡ f.at
  at_kept (word bytes) f = refl
  at_kept (named role) f = refl
  at_kept bound f = refl
  at_kept values f = refl
  at_kept (null_or bytes) f = refl
  at_kept remainder f = refl
  at_kept modulus f = refl
  at_kept (lead role) f = refl
  at_kept (term role) f = refl
  at_kept constant f = refl
  at_kept step f = refl

  -- behind a part stands what the following ones say
  pub behind : (p : Part) (ps : List Part) (f : Parsed) → drop f.at text ≡ text_by (p ∷ ps) names s → drop (followed names vars s p f).at text ≡ text_by ps names s
  behind p ps f is =
      ap (λ n. drop (n + length (part_text names s p)) text) (at_kept p f)
      ∙ sym (drop-drop (length (part_text names s p)) f.at text)
      ∙ ap (drop (length (part_text names s p))) is
      ∙ drop_at (part_text names s p) (text_by ps names s) (length (part_text names s p)) refl

  module _ (P : Parsed → Type 0) (sets : Part → Bool)
      (keeps : (p : Part) (f : Parsed) → sets p ≡ false → P f → P (followed names vars s p f))
      (does : (p : Part) (ps : List Part) (f : Parsed) → sets p ≡ true → is_ended (length vars) p ps ≡ true → drop f.at text ≡ text_by (p ∷ ps) names s → P (followed names vars s p f)) where
    -- what holds of what is found holds behind all parts
    pub all_kept : (ps : List Part) (f : Parsed) → are_ended (length vars) ps ≡ true → drop f.at text ≡ text_by ps names s → P f → P (all_followed names vars s ps f)
    all_kept [] f ended is h = h
    all_kept (p ∷ ps) f ended is h =
        let both = and_parts (is_ended (length vars) p ps) (are_ended (length vars) ps) ended in
        all_kept ps (followed names vars s p f) both.1 (behind p ps f is) (by (sets p) refl both.0)
      where
        by : (b : Bool) → sets p ≡ b → is_ended (length vars) p ps ≡ true → P (followed names vars s p f)
        by true e here = does p ps f e here is
        by false e here = keeps p f e h

    -- and what one of the parts tells
    pub some_told : (ps : List Part) (f : Parsed) → are_ended (length vars) ps ≡ true → drop f.at text ≡ text_by ps names s → list_any sets ps ≡ true → P (all_followed names vars s ps f)
    some_told [] f ended is any = absurd (false≢true any)
    some_told (p ∷ ps) f ended is any =
        by (sets p) refl (and_parts (is_ended (length vars) p ps) (are_ended (length vars) ps) ended) any
        (λ (e : are_ended (length vars) ps ≡ true) (a : list_any sets ps ≡ true). some_told ps (followed names vars s p f) e (behind p ps f is) a)
      where
        by : (b : Bool) → sets p ≡ b → (is_ended (length vars) p ps ≡ true) × (are_ended (length vars) ps ≡ true) → (sets p || list_any sets ps) ≡ true
            → (are_ended (length vars) ps ≡ true → list_any sets ps ≡ true → P (all_followed names vars s (p ∷ ps) f)) → P (all_followed names vars s (p ∷ ps) f)
        by true e both any rest = all_kept ps (followed names vars s p f) both.1 (behind p ps f is) (does p ps f e both.0 is)
        by false e both any rest = rest both.1 (ap (λ b. b || list_any sets ps) (sym e) ∙ any)

-- The last place that passes a test.
use Rattle.std.proofs.Common.{◌≡◌, ◌∙◌, ℕ, zero, suc, ◌+◌, Bool, true, false, cond, List, [], ◌∷◌, ◌++◌, filter, unwrap_or, Option, Some, None, if◌then◌else◌, refl, sym, ap, arith}
use Rattle.std.specs.List.{last_or, range_with_len}
use Rattle.std.proofs.lemmas.List.Elements.{filter-append}

range_more : (a n : ℕ) → range_with_len a (n + 1) ≡ range_with_len a n ++ (a + n) ∷ []
range_more a zero = let e : a + 0 ≡ a = omega arith in rw e refl
range_more a (suc n) = rw one_more (ap (λ xs. a ∷ xs) (range_more (a + 1) n ∙ ap (λ k. range_with_len (a + 1) n ++ k ∷ []) shifted))
  where
    one_more : suc n + 1 ≡ suc (n + 1)
    one_more = omega arith

    shifted : a + 1 + n ≡ a + suc n
    shifted = omega arith

last_push : {X : Type 0} (o : Option X) (xs : List X) (x : X) → last_or o (xs ++ x ∷ []) ≡ Some x
last_push o [] x = refl
last_push o (y ∷ xs) x = last_push (Some y) xs x

last_of_one : (b : Bool) (xs : List ℕ) (n d : ℕ) → unwrap_or (last_or None (xs ++ cond b (n ∷ []) [])) d ≡ (if b then n else unwrap_or (last_or None xs) d)
last_of_one true xs n d = ap (λ o. unwrap_or o d) (last_push None xs n)
last_of_one false xs n d = ap (λ ys. unwrap_or (last_or None ys) d) (append_nil xs)
  where
    append_nil : (ys : List ℕ) → ys ++ [] ≡ ys
    append_nil [] = refl
    append_nil (y ∷ ys) = ap (λ zs. y ∷ zs) (append_nil ys)

-- the last place up to n that passes is n itself, or the last one in front of it
last_more : (p : ℕ → Bool) (n d : ℕ) → unwrap_or (last_or None (filter p (range_with_len 0 (n + 1)))) d
    ≡ (if p n then n else unwrap_or (last_or None (filter p (range_with_len 0 n))) d)
last_more p n d =
    let whole : filter p (range_with_len 0 (n + 1)) ≡ filter p (range_with_len 0 n) ++ cond (p n) (n ∷ []) [] =
    ap (filter p) (range_more 0 n ∙ ap (λ k. range_with_len 0 n ++ k ∷ []) zero_plus) ∙ filter-append p (range_with_len 0 n) (n ∷ []) in
    ap (λ xs. unwrap_or (last_or None xs) d) whole ∙ last_of_one (p n) (filter p (range_with_len 0 n)) n d
  where
    zero_plus : 0 + n ≡ n
    zero_plus = omega arith

-- the same of a step that found it at n, and of one that did not
pub last_here : (p : ℕ → Bool) (n d : ℕ) → p n ≡ true → n ≡ unwrap_or (last_or None (filter p (range_with_len 0 (n + 1)))) d
last_here p n d h = sym (last_more p n d ∙ ap (λ b. if b then n else unwrap_or (last_or None (filter p (range_with_len 0 n))) d) h)

pub last_before : (p : ℕ → Bool) (n d len : ℕ) → p n ≡ false → len ≡ unwrap_or (last_or None (filter p (range_with_len 0 n))) d
    → len ≡ unwrap_or (last_or None (filter p (range_with_len 0 (n + 1)))) d
last_before p n d len h e = e ∙ sym (last_more p n d ∙ ap (λ b. if b then n else unwrap_or (last_or None (filter p (range_with_len 0 n))) d) h)

-- How a value is put into ascending values, step by step.
use Rattle.std.specs.Prelude.{[], ◌≡◌, ℕ, ◌+◌, ◌<◌, List, ◌∷◌, ◌++◌, length, take, drop, get_or, insert}
use Rattle.std.specs.declared.cmp.Ordering.TheVariants.{Less, Equal, Greater}
use Rattle.std.specs.FinMap.{IsAntisymmetric}
use Rattle.std.specs.Cmp.{IsTotalOrder}
use Rattle.std.specs.declared.cmp.Ordering.{Ordering}
use Rattle.std.proofs.Common.{sym, ap, ◌∙◌, drop-cons, take-append-drop, append_assoc, add-one}
use Rattle.std.proofs.lemmas.List.{take_more}
use Rattle.dk_forms.proofs.DistinctLaws.{all_put, put-equal, put-greater, put-less, put-nil}
use Rattle.dk_forms.specs.Known.Distinct.{put, put_all}

module _ {K : Type 0} {R : K → K → Ordering} (o : IsTotalOrder R) (same : IsAntisymmetric R) (d : K) where
  -- the items from i on
  drop-at : (s : List K) (i : ℕ) → i < length s → drop i s ≡ get_or s i d ∷ drop (i + 1) s
  drop-at s i h = rw (add-one, drop-cons s i d)

  pub put_at_equal : (x : K) (s : List K) (i : ℕ) → i < length s → R x (get_or s i d) ≡ Equal → put R x s ≡ take i s ++ put R x (drop i s) → put R x s ≡ s
  put_at_equal x s i h e p =
      p ∙ ap (λ t. take i s ++ put R x t) (drop-at s i h) ∙ ap (λ t. take i s ++ t) (put-equal o same x _ _ e ∙ sym (drop-at s i h)) ∙ take-append-drop i s

  pub put_at_less : (x : K) (s : List K) (i : ℕ) → i < length s → R x (get_or s i d) ≡ Less → put R x s ≡ take i s ++ put R x (drop i s) → put R x s ≡ insert s i x
  put_at_less x s i h e p =
      p ∙ ap (λ t. take i s ++ put R x t) (drop-at s i h) ∙ ap (λ t. take i s ++ t) (put-less o same x _ _ e ∙ ap (λ t. x ∷ t) (sym (drop-at s i h)))

  pub put_at_greater : (x : K) (s : List K) (i : ℕ) → i < length s → R x (get_or s i d) ≡ Greater → put R x s ≡ take i s ++ put R x (drop i s)
      → put R x s ≡ take (i + 1) s ++ put R x (drop (i + 1) s)
  put_at_greater x s i h e p =
      p ∙ ap (λ t. take i s ++ put R x t) (drop-at s i h) ∙ ap (λ t. take i s ++ t) (put-greater o same x _ _ e)
      ∙ sym (ap (λ t. t ++ put R x (drop (i + 1) s)) (take_more s i d h) ∙ append_assoc (take i s) _ _)

  pub put_at_end : (x : K) (s : List K) (i : ℕ) → drop i s ≡ [] → put R x s ≡ take i s ++ put R x (drop i s) → put R x s ≡ insert s i x
  put_at_end x s i e p =
      p ∙ ap (λ t. take i s ++ put R x t) e ∙ ap (λ t. take i s ++ t) (put-nil o same x ∙ ap (λ t. x ∷ t) (sym e))

  -- one value more is put
  pub put_all_step : (xs s : List K) (i : ℕ) → i < length xs → put_all R (drop i xs) s ≡ put_all R (drop (i + 1) xs) (put R (get_or xs i d) s)
  put_all_step xs s i h =
      ap (λ t. put_all R t s) (drop-at xs i h) ∙ sym (all_put o same (drop (i + 1) xs) (get_or xs i d) s)

  -- a loop that puts one value after another
  pub put_all_on : (xs s more : List K) (i : ℕ) (x : K) → i < length xs → x ≡ get_or xs i d → more ≡ put R x s → (whole : List K) → put_all R (drop i xs) s ≡ whole → put_all R (drop (i + 1) xs) more ≡ whole
  put_all_on xs s more i x h e m whole p =
      ap (put_all R (drop (i + 1) xs)) (m ∙ ap (λ v. put R v s) e) ∙ sym (put_all_step xs s i h) ∙ p

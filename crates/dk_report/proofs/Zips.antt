-- Lists that are related item by item.
use Rattle.std.specs.Prelude.{◌<◌, ◌+◌, ℕ, List, [], ◌∷◌, ◌++◌, length, take}
use Rattle.std.specs.List.{AllZip}
use Rattle.std.proofs.Common.{get_or, subst, sym}
use Rattle.std.proofs.lemmas.List.{take_more}

module _ {A B : Type 0} (R : A → B → Type 0) where
  pub zip-push : (xs : List A) (ys : List B) (x : A) (y : B) → AllZip R xs ys → R x y → AllZip R (xs ++ x ∷ []) (ys ++ y ∷ [])
  zip-push [] [] x y z r = (r, tt)
  zip-push [] (b ∷ ys) x y z r = absurd z
  zip-push (a ∷ xs) [] x y z r = absurd z
  zip-push (a ∷ xs) (b ∷ ys) x y z r = (z.0, zip-push xs ys x y z.1 r)

  -- one more of the second list
  pub zip-more : (xs : List A) (ys : List B) (i : ℕ) (x : A) (d : B) → i < length ys → AllZip R xs (take i ys) → R x (get_or ys i d) → AllZip R (xs ++ x ∷ []) (take (i + 1) ys)
  zip-more xs ys i x d l z r = subst (AllZip R (xs ++ x ∷ [])) (sym (take_more ys i d l)) (zip-push xs (take i ys) x (get_or ys i d) z r)

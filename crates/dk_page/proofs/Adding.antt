-- What parts and items add to a text, one after another.
use Rattle.std.proofs.Common.{◌≡◌, ◌<◌, ◌+◌, ◌∙◌, ◌++◌, ◌∷◌, [], ℕ, List, ap, append_assoc, get_or, length, sym, take}
use Rattle.std.proofs.lemmas.List.{flat_map_more, take_more}
use Rattle.std.specs.List.{flat_map}

-- one part more, behind others
pub more : (old front part mid new : List ℕ) → mid ≡ old ++ front → new ≡ mid ++ part → new ≡ old ++ (front ++ part)
more old front part mid new first second = second ∙ ap (λ (t : List ℕ). t ++ part) first ∙ append_assoc old front part

-- one that is this
pub more_as : (old front part told mid new : List ℕ) → mid ≡ old ++ front → new ≡ mid ++ told → told ≡ part → new ≡ old ++ (front ++ part)
more_as old front part told mid new first second is = more old front part mid new first (second ∙ ap (λ (t : List ℕ). mid ++ t) is)

-- one item more
pub one_more : {X : Type 0} (f : X → List ℕ) (xs : List X) (i : ℕ) (x : X) (old mid new : List ℕ) → i < length xs → x ≡ get_or xs i x
    → mid ≡ old ++ flat_map f (take i xs) → new ≡ mid ++ f x → new ≡ old ++ flat_map f (take (i + 1) xs)
one_more {X = X} f xs i x old mid new within here before added =
    added ∙ ap (λ (t : List ℕ). t ++ f x) before ∙ flat_map_more f old (take i xs) x
    ∙ ap (λ (l : List X). old ++ flat_map f l) (ap (λ (y : X). take i xs ++ y ∷ []) here ∙ sym (take_more xs i x within))

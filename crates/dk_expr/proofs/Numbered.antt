-- Numbers that parts tell, behind what is found.
use Rattle.std.specs.Prelude.{◌≡◌, IsSomeAnd, MatchOption, None, Option, Some}
use Rattle.std.proofs.Common.{ap, subst}

-- what a closure makes of what is there
pub made_of : {A B : Type 0} (from : Option A) (to : Option B) (Makes : A → B → Type 0) (x : A) (y : B) → from ≡ Some x
    → MatchOption from (to ≡ None) (λ a. IsSomeAnd to (Makes a)) → ((b : B) → Makes x b → b ≡ y) → to ≡ Some y
made_of from to Makes x y is cases makes = by to (subst (λ o. MatchOption o (to ≡ None) (λ a. IsSomeAnd to (Makes a))) is cases)
  where
    by : (o : Option _) → IsSomeAnd o (Makes x) → o ≡ Some y
    by (Some b) made = ap (λ z. Some z) (makes b made)
    by None made = absurd made

-- The distinct values of a list, ascending, if they are at most so many.
use Rattle.std.specs.Prelude.{[], ◌≡◌, ℕ, ◌<◌, ◌≤◌, nat_le, List, ◌∷◌, length, if◌then◌else◌}
use Rattle.std.specs.declared.cmp.Ordering.{Ordering}
use Rattle.std.specs.declared.cmp.Ordering.TheVariants.{Less, Equal, Greater}
use Rattle.dk_forms.specs.Known.{Known, broken, fact, nothing}

abbrev pub by_order : {A : Type 0} → Ordering → A → A → A → A
by_order Less a b c = a
by_order Equal a b c = b
by_order Greater a b c = c

module _ {K : Type 0} (R : K → K → Ordering) where
  -- x at its place among ascending values, if it isn't there
  unfoldable pub put : K → List K → List K
  put x [] = x ∷ []
  put x (y ∷ ys) = by_order (R x y) (x ∷ y ∷ ys) (y ∷ ys) (y ∷ put x ys)

  -- the values of xs among those of ys
  abbrev pub put_all : List K → List K → List K
  put_all [] ys = ys
  put_all (x ∷ xs) ys = put x (put_all xs ys)

  -- the distinct values, ascending
  abbrev pub distinct : List K → List K
  distinct xs = put_all xs []

  -- the values, if they are at most n
  abbrev pub at_most : ℕ → List K → Known (List K)
  at_most n xs = if nat_le (length xs) n then fact xs else broken

  -- what two lists have together, if that is at most n values
  abbrev pub few_meet : ℕ → List K → List K → Known (List K)
  few_meet n a b = at_most n (put_all a b)

  -- the distinct values of a list, if there are any and at most n
  abbrev pub few_of : ℕ → List K → Known (List K)
  few_of n [] = nothing
  few_of n (v ∷ vs) = at_most n (distinct (v ∷ vs))

  -- at least one and at most n values, distinct and ascending
  pub record IsFew (n : ℕ) (xs : List K) : Type 0 where
    pub ascending : distinct xs ≡ xs
    pub some : 0 < length xs
    pub few : length xs ≤ n

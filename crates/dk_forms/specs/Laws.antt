-- The laws of states: of the join of two, and of the state of a list.
use Rattle.std.specs.Prelude.{[], ◌≡◌, List, ◌∷◌, ◌++◌, ◌⊎◌}

-- x is one of the values
abbrev pub IsIn : {X : Type 0} → X → List X → Type 0
IsIn x [] = ⊥
IsIn x (y ∷ ys) = (x ≡ y) ⊎ IsIn x ys

-- the lists have the same values, in any order and with any repeats
pub record SameSet {X : Type 0} (xs ys : List X) : Type 0 where
  pub to : (x : X) → IsIn x xs → IsIn x ys
  pub from : (x : X) → IsIn x ys → IsIn x xs

-- the laws of a join, over the states that are proper
pub record JoinLaws {S : Type 0} (Proper : S → Type 0) (empty broken : S) (join : S → S → S) : Type 0 where
  pub empty_proper : Proper empty
  pub broken_proper : Proper broken
  pub closed : (a b : S) → Proper a → Proper b → Proper (join a b)
  pub assoc : (a b c : S) → Proper a → Proper b → Proper c → join (join a b) c ≡ join a (join b c)
  pub comm : (a b : S) → Proper a → Proper b → join a b ≡ join b a
  pub idem : (a : S) → Proper a → join a a ≡ a
  pub neutral : (a : S) → Proper a → join empty a ≡ a
  pub absorbs : (a : S) → Proper a → join broken a ≡ broken

-- what a row promises of the states of its lists
pub record SummaryLaws {S V : Type 0} (Proper : S → Type 0) (empty : S) (join : S → S → S) (of : List V → S) : Type 0 where
  pub none : of [] ≡ empty
  pub proper : (xs : List V) → Proper (of xs)
  pub both : (xs ys : List V) → of (xs ++ ys) ≡ join (of xs) (of ys)
  pub same : (xs ys : List V) → SameSet xs ys → of xs ≡ of ys

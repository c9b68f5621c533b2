-- What is known of some values: nothing yet, nothing that can be said, or a fact.
pub mod Distinct
pub mod Limited
pub mod Only
pub mod Place

pub data Known (F : Type 0) : Type 0 where
  nothing : Known F
  broken : Known F
  fact : F → Known F

module _ {F : Type 0} (meet : F → F → Known F) where
  -- what is known of both, where `meet` is what is known of two facts
  abbrev pub both : Known F → Known F → Known F
  both nothing b = b
  both broken b = broken
  both (fact x) nothing = fact x
  both (fact x) broken = broken
  both (fact x) (fact y) = meet x y

abbrev pub IfFact : {F : Type 0} → (F → Type 0) → Known F → Type 0
IfFact P nothing = Unit {0}
IfFact P broken = Unit {0}
IfFact P (fact x) = P x

-- cited by public clauses
pub mod Reports
pub mod Laws
-- what those are made of, and words for the crates above
pub mod Halves
pub mod Conditions
pub mod Implications
pub mod Standing
-- inner: cited by the clauses of bodies and in proofs alone
pub mod Telling

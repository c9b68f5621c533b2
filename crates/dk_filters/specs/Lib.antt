-- cited by public clauses
pub mod Facts
pub mod Candidates
pub mod Filters
pub mod Found
pub mod Parents
pub mod Memory
pub mod Laws
-- what those are made of, and words for the crates above
pub mod Answers
pub mod Sameness
pub mod OfSamples
-- inner: cited by the clauses of bodies and in proofs alone
pub mod Choices

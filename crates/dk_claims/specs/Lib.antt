-- cited by public clauses
pub mod Claims
pub mod Sections
pub mod Standing
pub mod Reading
pub mod Laws
-- what those are made of, and words for the crates above
pub mod Counts
-- inner: cited by the clauses of bodies and in proofs alone
pub mod Steps

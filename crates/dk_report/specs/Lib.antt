-- cited by public clauses
pub mod Reports
pub mod Sizes
pub mod Engines
pub mod Laws
-- what those are made of, and words for the crates above
pub mod Keeping
-- inner: cited by the clauses of bodies and in proofs alone
pub mod Sweeps
pub mod Listing
pub mod Asked
pub mod Narrowing
pub mod Viewing
pub mod Parents
pub mod Counting

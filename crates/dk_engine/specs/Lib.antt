-- cited by public clauses
pub mod Exact
pub mod Reading
pub mod Laws
pub mod StepLaws
pub mod Saved
pub mod Sweeps
-- what those are made of, and words for the crates above
pub mod Numbers
pub mod Feeding
-- inner: cited by the clauses of bodies and in proofs alone
pub mod Idle

-- cited by public clauses
pub mod Waiting
pub mod Records
pub mod Standing
pub mod Fitting
pub mod Untaken
-- what those are made of, and words for the crates above
pub mod Origs
pub mod Nonces
pub mod Stacks
-- inner: cited by the clauses of bodies and in proofs alone
pub mod Links

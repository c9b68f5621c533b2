-- cited by public clauses
pub mod Telling
pub mod Laws
-- what those are made of
pub mod Saying
-- inner: cited by the clauses of bodies and in proofs alone
pub mod Steps

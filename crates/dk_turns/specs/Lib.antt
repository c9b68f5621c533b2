-- cited by public clauses
pub mod Turns
pub mod Laws
-- what those are made of
pub mod Blocks
-- inner: cited by the clauses of bodies and in proofs alone
pub mod Reading

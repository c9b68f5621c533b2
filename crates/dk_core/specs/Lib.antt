-- cited by public clauses
pub mod Resuming
pub mod Sections
pub mod Selecting
pub mod Keeping
pub mod Standing
pub mod Steps
-- inner: cited by the clauses of bodies and in proofs alone
pub mod Growing
pub mod Taking

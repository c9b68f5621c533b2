-- cited by public clauses
pub mod Statuses
pub mod Requests
pub mod Texts
-- inner: cited by the clauses of bodies and in proofs alone
pub mod Standing
pub mod Growing

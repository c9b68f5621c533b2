-- cited by public clauses
pub mod Statuses
pub mod Requests
pub mod Texts
-- what those are made of
pub mod Reports
-- inner: cited by the clauses of bodies and in proofs alone
pub mod Standing

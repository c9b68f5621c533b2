-- cited by public clauses
pub mod Templates
pub mod Admitted
pub mod Exchange
pub mod Fitting
pub mod Proper
pub mod Joins
pub mod Laws
pub mod Rows
pub mod Premises
pub mod Numbers
-- inner: cited by the clauses of bodies and in proofs alone
pub mod Ascending
pub mod ProperTest

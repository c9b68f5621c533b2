-- cited by public clauses
pub mod Records
pub mod Paths
pub mod Verdicts
pub mod Reports
pub mod Standing
pub mod Laws
-- inner: cited by the clauses of bodies and in proofs alone
pub mod Checks
pub mod Tests
pub mod Reading

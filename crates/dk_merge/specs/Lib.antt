-- cited by public clauses
pub mod Statuses
pub mod Ending
pub mod Histories
pub mod Recorders
pub mod Laws
-- what those are made of, and words for the crates above
pub mod Merged
pub mod Outputs
-- inner: cited by the clauses of bodies and in proofs alone
pub mod Reading
pub mod Gathering
pub mod Running

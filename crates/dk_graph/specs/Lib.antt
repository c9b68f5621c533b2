-- cited by public clauses
pub mod Names
pub mod Graphs
pub mod Kept
pub mod Paths
-- what those are made of, and words for the crates above
pub mod Notes
pub mod Rows
pub mod Raising
-- inner: cited by the clauses of bodies and in proofs alone
pub mod Joined

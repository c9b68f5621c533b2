-- cited by public clauses
pub mod Lanes
pub mod Bounds
pub mod Shift
-- what those are made of, and words for the crates above
pub mod Relation
-- inner: cited by the clauses of bodies and in proofs alone
pub mod Blocks

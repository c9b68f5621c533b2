-- cited by public clauses
pub mod Samples
-- what those are made of, and words for the crates above
pub mod Leaders

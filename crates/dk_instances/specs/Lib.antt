-- cited by public clauses
pub mod Laws
-- what those are made of, and words for the crates above
pub mod Fits
pub mod Instances

-- cited by public clauses
pub mod Gcd
pub mod Directions
pub mod Laws
-- what those are made of, and words for the crates above
pub mod Vectors

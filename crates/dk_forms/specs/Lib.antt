-- cited by public clauses
pub mod Plain
pub mod Least
pub mod Greatest
pub mod Ints
pub mod Texts
pub mod Modulus
pub mod Plane
pub mod Truth
pub mod Code
pub mod Offset
pub mod Copies
-- what those are made of, and words for the crates above
pub mod Known
pub mod Laws

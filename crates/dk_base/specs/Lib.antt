-- cited by public clauses
pub mod Refusals
pub mod Pieces
pub mod Words
pub mod Names
pub mod Numbers
pub mod Values
pub mod Comparability
-- what those are made of, and words for the crates above
pub mod Reading
pub mod Shapes

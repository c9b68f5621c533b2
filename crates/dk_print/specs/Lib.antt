-- cited by public clauses
pub mod Texts
pub mod Sections
pub mod Laws
pub mod Shown
-- what those are made of, and words for the crates above
pub mod Parts
pub mod Names

-- cited by public clauses
pub mod Laws
-- what those are made of, and words for the crates above
pub mod Relations
pub mod Meaning
pub mod Meanings

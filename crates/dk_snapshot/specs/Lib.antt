-- cited by public clauses
pub mod Classes
pub mod Patterns
pub mod Entries
pub mod Restored
-- what those are made of, and words for the crates above
pub mod Sorting

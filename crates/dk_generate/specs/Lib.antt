-- cited by public clauses
pub mod Generated
pub mod Texts
-- what those are made of, and words for the crates above
pub mod Calls
pub mod Draws
pub mod Records

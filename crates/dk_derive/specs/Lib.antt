-- cited by public clauses
pub mod Vars
pub mod Values
pub mod Laws
pub mod Partners
-- what those are made of, and words for the crates above
pub mod Names

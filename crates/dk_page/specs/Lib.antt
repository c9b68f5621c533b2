-- cited by public clauses
pub mod Pages
pub mod Groups
pub mod Ids
pub mod Headings
pub mod Laws
-- what those are made of
pub mod Showing
pub mod Parts

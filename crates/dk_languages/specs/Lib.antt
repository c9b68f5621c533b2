-- cited by public clauses
pub mod Tellings
pub mod Speaking
pub mod Laws
-- what those are made of
pub mod Bases
pub mod Literals
pub mod Holes
pub mod Rows

-- cited by public clauses
pub mod Lines
-- what those are made of
pub mod Rows
pub mod States
pub mod Texts
pub mod Trees

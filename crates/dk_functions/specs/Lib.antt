-- cited by public clauses
pub mod Functions
-- what those are made of
pub mod Parameters
pub mod Quoting

-- cited by public clauses
pub mod Laws
pub mod Requests
pub mod Given
pub mod Descriptions
-- what those are made of
pub mod Commands
-- for worked examples
pub mod Examples

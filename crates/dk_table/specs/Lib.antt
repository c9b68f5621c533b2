-- cited by public clauses
pub mod Asked
pub mod Statuses
pub mod Traces
pub mod Refusals
pub mod Laws
-- what those are made of
pub mod Columns
pub mod Outcomes
pub mod Streams
pub mod Tables
pub mod Writing

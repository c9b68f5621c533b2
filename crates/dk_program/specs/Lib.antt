-- cited by public clauses
pub mod Statuses
pub mod Tasks
pub mod Openings
pub mod Moments
pub mod Ending
pub mod Messages
pub mod Telling
-- what those are made of
pub mod Outputs

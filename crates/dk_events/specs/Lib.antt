-- cited by public clauses
pub mod Statuses
pub mod Telling
pub mod Following
pub mod Standing

pub mod Merging
pub mod Held
pub mod Taking
pub mod Ending
pub mod TurnsRuns
pub mod StateReports
pub mod Saying
pub mod Complete
pub mod Histories
mod Groups
mod Recorders

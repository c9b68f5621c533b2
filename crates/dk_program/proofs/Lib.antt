pub mod Completing
pub mod Opening
pub mod Saying
pub mod Writing

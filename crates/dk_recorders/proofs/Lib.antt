mod Examples
mod Worked
pub mod Orders
pub mod Rounds
pub mod Lines
pub mod Permuted
pub mod Trimming
pub mod Files
pub mod Queues
pub mod Taking
pub mod Numbers
pub mod Groups
pub mod Awaiting
pub mod Chains
pub mod Mixed
pub mod Spaced
pub mod Ordered
pub mod Answering
pub mod Sections
pub mod Telling
pub mod Courses
pub mod Outputs

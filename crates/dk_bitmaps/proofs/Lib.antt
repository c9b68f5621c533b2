mod Examples
pub mod Words
pub mod Making
pub mod Counts

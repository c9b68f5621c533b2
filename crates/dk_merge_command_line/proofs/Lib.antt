mod Examples
pub mod Whole

mod Examples
pub mod Growing
pub mod Feeding
pub mod Lines

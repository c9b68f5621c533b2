pub mod Words
pub mod Loops
pub mod Declared
pub mod Recorded
pub mod Lines
pub mod Blocks
pub mod Traces
pub mod Written

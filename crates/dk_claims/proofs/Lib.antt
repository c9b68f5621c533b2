mod Examples
pub mod Counting
pub mod Claiming
pub mod Sectioning
pub mod Lining

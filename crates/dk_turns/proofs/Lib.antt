mod Examples
pub mod Lining
pub mod Fronting
pub mod Running
pub mod Rounding
pub mod Joining

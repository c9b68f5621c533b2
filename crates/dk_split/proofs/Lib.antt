pub mod Examples
pub mod Keeping
pub mod Sections
pub mod Taking

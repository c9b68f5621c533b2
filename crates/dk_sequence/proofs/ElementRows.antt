pub mod Takes
pub mod Relating

pub mod Takes
pub mod Relating
pub mod Scans
pub mod Shifts

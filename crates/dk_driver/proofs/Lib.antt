mod Delivering
pub mod Complete
pub mod Trails
pub mod Filing
pub mod Running
pub mod Taking

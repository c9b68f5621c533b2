mod Breaking
mod Sweeping
mod Numbers
pub mod Slots

pub mod Alike
pub mod Ascending
pub mod Fitting
pub mod Listing
pub mod Members
pub mod Pushing
pub mod Symmetries
pub mod Turning
pub mod Whole
mod Examples

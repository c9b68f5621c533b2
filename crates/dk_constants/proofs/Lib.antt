pub mod Lookups
pub mod TextLists
pub mod Gaps
pub mod Parting
pub mod Feeding
pub mod Determined

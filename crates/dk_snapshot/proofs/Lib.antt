pub mod Sorted
pub mod Grouping
pub mod Present
pub mod PatternOrder
pub mod Weights
pub mod Leading
pub mod Restoring
pub mod Rising

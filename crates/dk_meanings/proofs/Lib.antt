mod Bounds
mod MeaningLaws
mod Tables
pub mod RowLaws
mod Examples
pub mod Staying

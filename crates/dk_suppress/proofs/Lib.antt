pub mod Facts
pub mod Usable
pub mod Asking
pub mod Numbered
pub mod Freed
pub mod AskedRows
mod Examples
mod Shown
pub mod Parts
pub mod Searching
pub mod NumberRules
pub mod BitRules
pub mod SequenceRules
pub mod Saying
mod TupleRules
pub mod Sound
pub mod Agreeing

pub mod Adding
pub mod Expressions
pub mod Told
pub mod Paging
pub mod Once

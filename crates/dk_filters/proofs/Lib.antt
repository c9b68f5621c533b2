mod Examples
pub mod Lists
pub mod Choices
pub mod Firsts
pub mod FromFound
pub mod Listed
pub mod Sharper
pub mod OneValues
pub mod Somewhere
pub mod Judged
pub mod AtParents
pub mod Asked
pub mod Same
pub mod Agreeing
pub mod Ascending

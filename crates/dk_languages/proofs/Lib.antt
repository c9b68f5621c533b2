pub mod Growing
pub mod Letters
pub mod Words
pub mod Tables

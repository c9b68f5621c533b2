pub mod Reading
pub mod Decimals
pub mod Tokens
pub mod Adding
pub mod Shallow
mod Examples

-- cited by public clauses
pub mod Patterns
pub mod Steps
pub mod Laws
pub mod Hashes

-- cited by public clauses
pub mod Names
pub mod Declarations
pub mod Records
pub mod Writable
pub mod Texts
pub mod Course
pub mod Laws
pub mod Writing

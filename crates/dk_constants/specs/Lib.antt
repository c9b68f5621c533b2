-- cited by public clauses
pub mod Known
pub mod Constants
pub mod Laws

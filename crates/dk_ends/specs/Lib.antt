-- cited by public clauses
pub mod Laws

-- cited by public clauses
pub mod Leaders
pub mod Classes
pub mod Laws
-- inner: cited by the clauses of bodies and in proofs alone
pub mod Keys

-- cited by public clauses
pub mod Rules
pub mod Laws
pub mod Told
pub mod Soundness
-- inner: cited by the clauses of bodies and in proofs alone
pub mod Parts

-- cited by public clauses
pub mod Fronts
pub mod Engines
pub mod Merging
pub mod Laws
pub mod Faults
pub mod Loading
-- inner: cited by the clauses of bodies alone
pub mod Numbers

-- cited by the clauses of its functions
pub mod Samples

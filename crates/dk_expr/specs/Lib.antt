-- cited by public clauses
pub mod Reads
pub mod Naming
pub mod Violations
pub mod Laws
-- what those are made of
pub mod Held
-- inner: cited by the clauses of bodies and in proofs alone
pub mod Readable
pub mod Following
pub mod Searches
pub mod Telling
pub mod Valued
pub mod Finds

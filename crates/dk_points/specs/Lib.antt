-- cited by public clauses
pub mod Names
pub mod Table
pub mod Vars
pub mod Links
pub mod Partners
pub mod Declaring
pub mod Laws
pub mod Ends
pub mod Kept
pub mod Bare
-- what those are made of, and words for the crates above
pub mod Sameness
pub mod Counts
-- inner: cited by the clauses of bodies and in proofs alone
pub mod VarsByName
pub mod KeptEdges
pub mod Next

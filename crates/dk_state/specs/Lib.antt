-- cited by public clauses
pub mod Saved
pub mod StateFile
pub mod Spelling
pub mod Laws
pub mod Loading
-- what those are made of, and words for the crates above
pub mod Given
pub mod Lines
pub mod Declarations
pub mod States
pub mod Kept
pub mod Compact
pub mod Reading
pub mod Fitting
-- inner: cited by the clauses of bodies and in proofs alone
pub mod Numbered
pub mod StateWords
pub mod Within
pub mod Matching

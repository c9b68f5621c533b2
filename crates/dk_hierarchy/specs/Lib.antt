-- cited by public clauses
pub mod Samples
pub mod Edges
pub mod Descent
pub mod Laws
pub mod WayLaws
pub mod Merging
pub mod Standing
pub mod Having
pub mod Shortcuts
-- what those are made of, and words for the crates above
pub mod Ways

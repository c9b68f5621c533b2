-- cited by public clauses
pub mod Reads
pub mod Consuming
pub mod Standing
pub mod Walks
pub mod Files
pub mod Laws
-- what those are made of
pub mod Trails
-- what holds within a file, and between files, for the loops of this crate and others
pub mod WholeFile
pub mod AllFiles
pub mod Steps

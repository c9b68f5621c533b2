-- cited by public clauses
pub mod Laws
-- what those are made of
pub mod Blocks
pub mod Recorders
pub mod Interleaving

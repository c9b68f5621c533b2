pub mod LaneLemmas
pub mod BlockLemmas
pub mod OffsetLemmas
pub mod ExtremeLemmas
mod Examples

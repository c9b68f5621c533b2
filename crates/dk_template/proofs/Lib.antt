pub mod Table
pub mod Ascents
pub mod Absorbing
pub mod Askings
mod Examples
pub mod Exchanges
pub mod Listing
pub mod PlainStates
pub mod PlaneMoves
pub mod ProperStates
pub mod ProperTests
pub mod RowLaws
pub mod WrittenOrder
pub mod WrittenTuples
pub mod Staying

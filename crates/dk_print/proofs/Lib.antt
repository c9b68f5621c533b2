mod Examples
pub mod Pieces
pub mod Reading
pub mod Alike
pub mod Tokens
pub mod TokenWords
pub mod Apart
pub mod Settled
pub mod Decimals
pub mod Forms
pub mod Formed
pub mod Telling

pub mod GcdLaws
pub mod Ring
pub mod Coprime
pub mod TwoPoints
pub mod LowestTerms
pub mod Registers
pub mod Parallels
pub mod Choice

pub mod Firsts
pub mod Agreement
pub mod OwnLeaders
pub mod OfKind
pub mod Examples
pub mod Keys
pub mod Determined

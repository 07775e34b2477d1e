pub mod Tight
pub mod Lent

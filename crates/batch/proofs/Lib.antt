pub mod Turns
pub mod Tight

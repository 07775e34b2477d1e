pub mod Digits
pub mod Tight

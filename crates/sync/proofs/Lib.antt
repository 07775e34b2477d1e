pub mod Ways
pub mod Tight

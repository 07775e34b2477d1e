pub mod Mixing
pub mod Tight

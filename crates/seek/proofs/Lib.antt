pub mod Spots
pub mod Halving
pub mod Found
pub mod Tight

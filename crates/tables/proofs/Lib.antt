pub mod Sizes
pub mod Tight

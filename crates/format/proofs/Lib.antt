pub mod Leaf
pub mod Whole
pub mod Tight

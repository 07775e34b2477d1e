pub mod Leaf
pub mod Along
pub mod Call
pub mod Tight

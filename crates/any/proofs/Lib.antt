pub mod Leaf
pub mod Turns
pub mod Calls
pub mod Tight

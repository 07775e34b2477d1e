pub mod Last
pub mod Leaf
pub mod Few
pub mod Turns
pub mod Calls
pub mod Tight

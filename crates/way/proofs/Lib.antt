pub mod Ahead
pub mod Inner
pub mod Leaf
pub mod Stood
pub mod Linked
pub mod Descent
pub mod Ending
pub mod Tight

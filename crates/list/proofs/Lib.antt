pub mod Tells
pub mod Calls
pub mod Empty
pub mod Tight

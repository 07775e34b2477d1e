pub mod ByHead
pub mod Halved
pub mod Grown
pub mod Tight

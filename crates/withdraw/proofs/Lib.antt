pub mod Along
pub mod Call
pub mod Tight

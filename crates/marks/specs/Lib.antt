pub mod Opened
pub mod Lowest

pub mod Ahead
pub mod Ways

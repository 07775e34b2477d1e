pub mod Layout
pub mod Spot

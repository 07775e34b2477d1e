-- The mix theorem.
pub mod Mix
pub mod Backed
pub mod Live
pub mod MixTheorem

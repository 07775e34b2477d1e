-- Ways and the invariant.
pub mod Ways
pub mod Invariant
pub mod Sources
pub mod Kids
pub mod Nodes

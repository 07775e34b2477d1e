pub mod Leaves
pub mod Lean

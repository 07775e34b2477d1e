pub mod Put
pub mod Changed
pub mod Edits
pub mod Removed
pub mod Twins
pub mod Callers
pub mod Tight

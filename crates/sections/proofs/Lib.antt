-- Each file uses only those above it.
pub mod Puts
pub mod Runs
pub mod Overs
pub mod Items
pub mod File
pub mod Tight

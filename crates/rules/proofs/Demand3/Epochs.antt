-- Sync, opening and format.
pub mod Epochs
pub mod Opens
pub mod OpenMarks
pub mod Crashes
pub mod Store
pub mod Openings
pub mod Recoveries
pub mod Syncs
pub mod FirstLeaf
pub mod Formats

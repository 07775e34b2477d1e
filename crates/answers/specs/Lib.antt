-- Each file uses only those above it.
pub mod Given
pub mod OneKey
pub mod Range
pub mod AsItStands
pub mod Causes
pub mod When
pub mod Demand1
pub mod Levels

-- Each file uses only those above it.
pub mod Extends
pub mod Filling
pub mod Rooms
pub mod Listing
pub mod Tells
pub mod Calls
pub mod Promises
pub mod Tight

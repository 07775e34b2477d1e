-- Each file uses only those above it.
pub mod Steps
pub mod Order
pub mod Alike
pub mod Ground
pub mod Climb
pub mod Ends
pub mod Leaves

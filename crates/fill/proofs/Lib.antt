pub mod Spots
pub mod Copies
pub mod Leaves
pub mod Calms
pub mod Fills
pub mod Tight

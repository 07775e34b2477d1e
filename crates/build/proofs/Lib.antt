pub mod Built
pub mod Cuts
pub mod Halves
pub mod Sounds
pub mod Tight

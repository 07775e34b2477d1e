pub mod Heads
pub mod Plans
pub mod Pages
pub mod Steps
pub mod Tight

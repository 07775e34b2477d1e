pub mod Tight
pub mod Told
pub mod Reading

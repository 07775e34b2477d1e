pub mod Told
pub mod Mended
pub mod Stands
pub mod Finds
pub mod Tight

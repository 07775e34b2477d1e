pub mod Bytes
pub mod Field
pub mod Library
pub mod Number
pub mod Run
pub mod Worked
pub mod Tight

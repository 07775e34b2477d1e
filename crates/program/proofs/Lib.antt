pub mod Printing
pub mod Transcript
pub mod Events

pub mod Note
pub mod Run

pub mod Rest
pub mod After
pub mod Ground
pub mod Leaves

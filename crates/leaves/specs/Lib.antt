pub mod Kept
pub mod Cursors
pub mod Walks

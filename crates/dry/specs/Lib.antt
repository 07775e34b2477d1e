pub mod Walk
pub mod Source
pub mod Count
pub mod Cursor

-- What a run of bytes does to the bench program's store, and what is told of a trouble.
pub mod Runs
pub mod Troubles

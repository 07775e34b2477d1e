-- What a line of the bench program does to its store, and what is to be printed for it.
pub mod Acts

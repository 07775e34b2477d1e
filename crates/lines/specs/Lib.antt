-- What a line of the bench program asks for, and the reader that finds it out byte by byte.
pub mod Line
pub mod Reader

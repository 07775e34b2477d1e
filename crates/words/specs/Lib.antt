-- What the bench program prints for a line.
pub mod Words

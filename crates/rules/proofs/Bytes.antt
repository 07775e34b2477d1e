-- Bytes, pages and tables.
pub mod Keys
pub mod Over
pub mod All
pub mod Each
pub mod EntryBytes
pub mod Pages
pub mod Tables
pub mod PageZero
pub mod Mixes
pub mod Marked
pub mod Numbers
pub mod Widths
pub mod Counter
pub mod Lengths
pub mod Fresh

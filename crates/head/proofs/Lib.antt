-- Laws of what is read: headers and entries against whole pages, loops over entries, page 0, chains of tests in code.
pub mod Chain
pub mod PageZero
pub mod Headers
pub mod Left
pub mod Kids
pub mod Tight

-- Laws of notes, of runs, of the walk's steps, and what notes say of the whole tree.
pub mod Beyond
pub mod Noting
pub mod Counting
pub mod Cuts
pub mod Spans
pub mod Looks
pub mod Shows
pub mod Trees
pub mod Goods
pub mod Ranges
pub mod Members
pub mod Wholes
pub mod Tight

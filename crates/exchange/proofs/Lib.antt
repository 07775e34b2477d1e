-- Laws about the exchange file. Each file uses only those above it.

-- Worked cases
pub mod Computing
pub mod Worked
-- The judgement, step by step, as code makes it
pub mod Sizes
pub mod Steps
pub mod Parts
-- A section as bytes and as items
pub mod Runs
-- Items and the entries they tell of
pub mod Overs
pub mod Chains
pub mod Tellings
pub mod Writings
pub mod Sections
-- Accepted exactly if it is the file of a set
pub mod Sets
pub mod Writes
pub mod Accepts
pub mod Exact
-- One certificate of an accepted file
pub mod Places
-- Items written
pub mod Puts
-- A file read into a store
pub mod ReadBy
-- No second outcome
pub mod Tight

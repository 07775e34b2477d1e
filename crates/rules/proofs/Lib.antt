-- Laws about the rules. A room has one subject, a file one notion; each file uses only those above it.

-- Tests, entries, soundness, places
pub mod Entries
-- Bytes, pages and tables
pub mod Bytes
-- Demand 1
pub mod Demand1
-- The bench cases
pub mod Cases
-- Demand 3
pub mod Demand3
-- No second outcome
pub mod Tight

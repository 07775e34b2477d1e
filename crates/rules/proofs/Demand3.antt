-- Demand 3: its last line is histories.Histories.demand3. Each part uses only those above it.
pub mod Ways
pub mod Mix
pub mod Epochs
pub mod Steps
pub mod Reads
pub mod Histories

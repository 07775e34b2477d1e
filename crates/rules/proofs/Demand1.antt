-- Demand 1: what each call may change, and what a refused one leaves.
pub mod WalkSteps
pub mod Mending
pub mod InTurns
pub mod Unmended
pub mod Refusals
pub mod Withdrawals
pub mod Tested
pub mod Reports
pub mod LikeLookup
pub mod CallsInTurn
pub mod FirstLost
pub mod Counted
pub mod Batches

-- Histories.
pub mod Pasts
pub mod Fates
pub mod Survivals
pub mod Ended
pub mod Servings
pub mod Gained
pub mod Changes
pub mod Histories
pub mod Kept
pub mod QuietCalls
pub mod SameRecords
pub mod Restarts
pub mod Batches

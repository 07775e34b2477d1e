-- What a user may rely on. Each file ends with its promises; each promise is proved by the theorem of its name in proofs/.
pub mod Reading
pub mod Leaving
pub mod Reporting
pub mod Building
pub mod Inserting
pub mod Delivering
pub mod Agreeing
pub mod Withdrawing
pub mod Provisional
pub mod Entering
pub mod ByEntering

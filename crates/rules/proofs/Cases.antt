-- The bench cases.
pub mod Computing
pub mod Cases

mod Places
pub mod Tight

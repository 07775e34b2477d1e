-- Tests, entries, soundness, places.
pub mod Tests
pub mod Rises
pub mod Entries
pub mod Same
pub mod Puts
pub mod Withouts
pub mod Views
pub mod Sounds
pub mod Places
pub mod Reasons
pub mod Halves
pub mod Picks
pub mod Asks
pub mod Twins

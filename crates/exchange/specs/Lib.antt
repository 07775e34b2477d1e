-- The exchange file of K4 and K9 as definitions: its items, which file a set of certificates has, how a file of any bytes is
-- judged, which certificates it tells of, and what a call leaves that reads it into a store. The sections and the reasons of a
-- refusal are declared in src/lib.rt.
pub mod Item
pub mod Written
pub mod Judged
pub mod Told
pub mod Exact
pub mod ReadFile

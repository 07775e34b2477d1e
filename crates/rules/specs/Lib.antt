-- Document 01 as definitions, in its own order. Each file is one notion; a file uses only those above it.
--
-- The types that code has too are declared in src/lib.rt, and come here as declared.NAME: a place (what an entry asks of its
-- child; want is the kind asked for, and want = 0 asks for any kind, as page 0 does of the root), what a walk is asked for,
-- the session, and for each call its answers.
pub mod Layout
pub mod Test
pub mod Key
pub mod Entry
pub mod Page
pub mod Table
pub mod Sound
pub mod Place
pub mod Enter
pub mod Report
pub mod Walk
pub mod Tree
pub mod Marks
pub mod Answer
pub mod Call
pub mod Handing
pub mod Format
pub mod Open
pub mod Insert
pub mod Withdraw
pub mod Lookup
pub mod Newest
pub mod HasAny
pub mod List
pub mod Reports
pub mod Batch
pub mod Sync
pub mod Crash
pub mod History
pub mod Demand
pub mod Mends
pub mod Quiet
pub mod Cases

-- The promises of specs/, proved; each file uses only those above it.

-- A record that is found, and what newest and list hand out
pub mod Exact
pub mod Meters
pub mod Handed
-- What a walk of one key leaves of each page
pub mod Turns
pub mod WayLeft
pub mod Refused
-- and what its report tells
pub mod Reporting
-- What stands on a page that a call builds
pub mod Building
-- What an insert changes, in tables of any bytes
pub mod Leading
pub mod Writing
pub mod Splitting
pub mod Marking
pub mod Counts
pub mod Changes
-- and between the items of a batch
pub mod Delivered
-- and that its key is found then: the way of the key after the splits
pub mod Chains
pub mod SplitChain
pub mod Found
pub mod FoundThen
-- What an insert adds, in every history
pub mod Adds
-- Tables whose tree passes opening's tests
pub mod Passes
pub mod Soundly
pub mod SameTree
-- the walks through them
pub mod Gathers
pub mod Ends
pub mod Largest
-- Lookup, newest, has-any and list
pub mod FirstShown
pub mod Empty
pub mod Agrees
pub mod Provisionals
pub mod HistoriesAgree
pub mod Puts
-- What a withdrawal changes, in tables of any bytes and in every history
pub mod TakenOut
pub mod Takes
-- Opening, as the table stands and by entering
pub mod OpeningEnters
pub mod Joins
pub mod ByEntering

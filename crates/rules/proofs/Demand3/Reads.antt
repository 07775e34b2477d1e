-- The calls that read.
pub mod Brings
pub mod Enters
pub mod SameWay
pub mod Looks
pub mod TreeCerts
pub mod Gathers
pub mod Shown
pub mod Walks
pub mod Lists
pub mod Totals
pub mod Tellings
pub mod Anys
pub mod InsertsSame

-- Laws of the one pass over a page's entries, and of soundness by kind.
pub mod Scan
pub mod Turn
pub mod Rising
pub mod GoodKey
pub mod Certs
pub mod Children
pub mod ByKind
pub mod Fitting
pub mod Mending
pub mod Tight

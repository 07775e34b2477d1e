pub mod Newests

-- The rule of the call, what the code hands back, and what the rule comes to.
pub mod WriteFile
pub mod Calls
pub mod Promises

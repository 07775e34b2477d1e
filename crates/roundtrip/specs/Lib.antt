pub mod RoundTrip
pub mod Carried

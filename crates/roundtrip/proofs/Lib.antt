-- The promises of specs/, proved; each file uses only those above it.

-- What a store holds is a set
pub mod Held
-- A store fresh from format and open holds nothing
pub mod Fresh
-- A row of certificates, each done, ends up in key order
pub mod Rows
-- The round trip
pub mod Trip
-- as the two calls make it
pub mod Carried

-- The text of NDJSON, and the members of rows in it.
pub mod Ndjson
pub mod Members
pub mod Digits

-- The text of rows in a sink, and what its writer does.
pub mod Sinks
pub mod Writers

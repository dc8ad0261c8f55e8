-- What pairings of ends make of a pipe.
pub mod Pairings

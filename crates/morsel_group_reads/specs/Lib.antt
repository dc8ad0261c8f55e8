-- What a group-by reads.
pub mod Reads

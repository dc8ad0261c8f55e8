-- What a cutter says of the bytes that it was fed, and how many rows whole records are.
pub mod Places
pub mod Runs
pub mod Cutting
pub mod Pieces
pub mod FirstEnds
pub mod RowCounts
pub mod Blocks

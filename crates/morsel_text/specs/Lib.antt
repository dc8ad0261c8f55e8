-- What the steps of reading find.
pub mod RawFields
pub mod Lines
pub mod Pushes
pub mod RowPlaces
pub mod Steps
pub mod Batches
pub mod EmptyLines
pub mod Plain
pub mod MarkedColumns
pub mod MarkedReads

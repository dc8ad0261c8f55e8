-- Joins of rows with one column.
pub mod Joins

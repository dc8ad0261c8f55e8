-- Rows with one column.
pub mod Groups

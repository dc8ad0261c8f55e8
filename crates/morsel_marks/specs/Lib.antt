-- The ends of fields, a record split at them, and what is read of rows between them.
pub mod Marks
pub mod ByMarks
pub mod MarkedRows

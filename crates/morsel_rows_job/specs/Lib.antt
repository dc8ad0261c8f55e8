-- What lanes of rows are for.
pub mod RowsJobs

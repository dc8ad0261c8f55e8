-- What a line of CSV pieces is for, and what it makes of a piece.
pub mod RowStages
pub mod Jobs
pub mod ScanJobs
pub mod ScanSources
pub mod SourceLaws
pub mod ScanRuns

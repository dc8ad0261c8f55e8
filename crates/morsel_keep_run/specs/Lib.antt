-- What the run of a line does that keeps the rows of a scan.
pub mod KeepRuns

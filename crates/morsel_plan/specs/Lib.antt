-- What the run of a line does.
pub mod LineRuns

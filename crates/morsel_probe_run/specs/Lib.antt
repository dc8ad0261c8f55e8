-- What the run of a line does that writes what the rows of a scan find.
pub mod ProbeRuns

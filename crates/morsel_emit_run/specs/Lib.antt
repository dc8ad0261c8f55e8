-- What the run of a line does that writes the kept rows which no row of a scan finds.
pub mod EmitRuns

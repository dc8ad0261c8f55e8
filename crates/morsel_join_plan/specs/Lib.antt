-- The run of a join of two scans through its lines.
pub mod JoinRuns
pub mod JoinLanes
pub mod PhaseRuns

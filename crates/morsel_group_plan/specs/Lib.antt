-- The run of a group-by of a scan, or of a join of two.
pub mod GroupRuns
pub mod GroupLanes
pub mod JoinedLanes

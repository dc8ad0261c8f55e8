-- What the lanes of a scan are for, and what its units make.
pub mod LaneJobs
pub mod LaneLaws
pub mod LaneRows
pub mod RowLaws

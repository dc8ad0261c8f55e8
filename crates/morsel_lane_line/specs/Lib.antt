-- What the line of a scan keeps.
pub mod LaneLines
pub mod KeepLines

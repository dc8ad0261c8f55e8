-- A group-by by its phases: the table of its ports, and what it has.
pub mod GroupTables
pub mod LaneEnds
pub mod SinkPhases
pub mod GroupPhases

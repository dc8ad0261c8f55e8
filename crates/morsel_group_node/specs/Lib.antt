-- The node of a group-by, and its units.
pub mod GroupUnits
pub mod GroupNodes

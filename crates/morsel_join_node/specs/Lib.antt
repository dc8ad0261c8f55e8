-- The node of a join, and its units.
pub mod JoinUnits
pub mod JoinNodes

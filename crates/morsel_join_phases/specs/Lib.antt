-- A join by its phases: the table of its ports, and what it has.
pub mod JoinTables
pub mod JoinPhases

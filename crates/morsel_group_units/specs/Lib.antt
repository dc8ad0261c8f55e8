-- What the units of a group-by make.
pub mod GroupAsks
pub mod TakenLoads
pub mod NextCuts
pub mod LocalTakings
pub mod GroupKeepers
pub mod GroupGivers

-- What the units of a join make.
pub mod RowCutters
pub mod RowKeepers
pub mod LookedUps
pub mod ProbeMakers
pub mod LoneGivers

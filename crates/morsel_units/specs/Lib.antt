-- What the units of nodes keep.
pub mod NodeUnits

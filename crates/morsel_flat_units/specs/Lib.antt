-- What the units of nodes that make several loads of one keep.
pub mod FlatUnits

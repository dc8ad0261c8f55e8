-- What the units of nodes keep that only take loads, or only give them.
pub mod EndUnits

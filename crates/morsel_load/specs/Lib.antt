-- What the lanes of a query carry.
pub mod Sources
pub mod Morsels
pub mod Loads
pub mod Lent
pub mod Splits
pub mod Linearized

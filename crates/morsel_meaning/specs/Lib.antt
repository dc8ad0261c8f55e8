-- Definitions that the contracts of several crates cite.
pub mod Values
pub mod Order
pub mod Faults
pub mod Often
pub mod Sequences
pub mod ListLaws

-- Definitions that the contracts of tasks and their scheduling cite.
pub mod Machine
pub mod Words
pub mod Permutation

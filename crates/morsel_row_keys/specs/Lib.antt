-- Keys of several columns.
pub mod Pairs
pub mod Chains

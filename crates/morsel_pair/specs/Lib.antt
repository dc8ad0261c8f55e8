-- Tasks of two kinds as one.
pub mod Pairs

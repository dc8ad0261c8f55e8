-- What a predicate says of a row, what it has to be, and what a filter keeps.
pub mod Truths
pub mod Predicates
pub mod Flaws
pub mod Kept
pub mod Weights
pub mod OrderTruths

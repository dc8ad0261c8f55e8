-- What a query asks, its flaws, its options, the plan that is made of it, what it means, and when its files have a fault.
pub mod RunOptions
pub mod Queries
pub mod NameSets
pub mod QueryFlaws
pub mod Plans
pub mod Meanings
pub mod CsvCauses

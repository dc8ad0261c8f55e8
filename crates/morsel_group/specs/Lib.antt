-- What is asked of a group-by, and what it means.
pub mod Asked
pub mod GroupFlaws
pub mod Grouping
pub mod Kept
pub mod Takes
pub mod Parts
pub mod Fresh
pub mod Arrivals
pub mod GroupCauses
pub mod Locals
pub mod CauseLaws

-- What accumulators of many groups have of rows.
pub mod GroupRows
pub mod GroupParts
pub mod Numbers
pub mod States

-- Cuts of rows, what was made of them, and rows in order.
pub mod CutLemmas
pub mod LoneLemmas
pub mod LookedLemmas
pub mod OrderLemmas
pub mod ProbeLemmas

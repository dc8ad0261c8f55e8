pub mod Totals
pub mod GroupSteps
pub mod WakeLemmas

pub mod RowSteps
pub mod WokenLemmas
pub mod WaitLemmas
pub mod MarkLemmas
pub mod RollLemmas
pub mod MakeLemmas
pub mod CountLemmas
pub mod EndLemmas

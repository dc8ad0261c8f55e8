pub mod StretchLemmas
pub mod SettleLemmas
pub mod SteppedLemmas
pub mod WaitingLemmas
pub mod TaskLemmas
pub mod MergingLemmas

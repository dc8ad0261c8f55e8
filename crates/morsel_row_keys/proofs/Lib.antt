pub mod ShownLemmas
pub mod RefusedLemmas
pub mod PairLemmas
pub mod ChainLemmas
pub mod StepLemmas
pub mod RowLemmas

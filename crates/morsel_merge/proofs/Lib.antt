pub mod MergeLemmas
pub mod AskLemmas
pub mod LogSteps
pub mod SpreadLemmas
pub mod HeldLemmas
pub mod BoardLemmas
pub mod SearchLemmas

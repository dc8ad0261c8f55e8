pub mod SourceSteps
pub mod SplitLemmas
pub mod LinearizedLemmas

pub mod FoundLemmas
pub mod BackLemmas

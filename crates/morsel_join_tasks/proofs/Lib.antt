mod FaultLemmas
pub mod ReadLemmas

-- Lemmas on the faults of CSV files.
pub mod RecordsInLemmas
pub mod ValidLemmas
pub mod BeginLemmas
pub mod CauseLemmas
pub mod ReachLemmas
pub mod NoCauseLemmas
pub mod GroupLemmas

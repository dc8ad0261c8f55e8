pub mod LevelLemmas
pub mod TruthLemmas
pub mod AnswerLemmas
pub mod CompareLemmas
pub mod KeptLemmas

pub mod PartLemmas
pub mod LeftLemmas
pub mod PieceLemmas

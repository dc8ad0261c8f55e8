pub mod DrainLemmas
pub mod PourLemmas

pub mod EndLemmas
pub mod GroupLemmas

pub mod BuildFacts
mod PhaseLemmas
mod PortLemmas
pub mod StayLemmas

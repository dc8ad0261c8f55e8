-- The rows of lanes that ended, and what stays of a group-by.
pub mod EndLemmas
pub mod PhaseLemmas
pub mod PortLemmas
pub mod StayLemmas

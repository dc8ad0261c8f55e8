-- The units of a group-by and their ends.
mod BackLemmas
mod EndLemmas
mod KindLemmas
mod MadeLemmas
mod PortLemmas
pub mod StayLemmas
mod UnitLemmas

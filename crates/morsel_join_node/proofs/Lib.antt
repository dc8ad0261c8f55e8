mod BackLemmas
mod EndLemmas
mod MadeLemmas
mod PortLemmas
pub mod StayLemmas
mod UnitLemmas
mod KindLemmas

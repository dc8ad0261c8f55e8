-- Lemmas of the runs of a join, which are those of other nodes too.
pub mod KnownFacts
pub mod PhaseFacts
pub mod LaneFacts
pub mod PortFacts
pub mod CourseLemmas
pub mod SweepLemmas
pub mod TurnFacts
pub mod NodeFacts

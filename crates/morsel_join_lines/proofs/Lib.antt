-- Lemmas of the ports of a join's lines, which are those of other nodes too.
pub mod PortLemmas

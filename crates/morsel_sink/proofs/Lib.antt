-- The law of parts.
pub mod SinkLemmas

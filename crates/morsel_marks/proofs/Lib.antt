-- Lemmas on masks of 64 bytes, and on a text split at the ends of its fields.
pub mod MaskLemmas
pub mod PlaceLemmas
pub mod LookLemmas
pub mod TextLemmas
pub mod BridgeLemmas
pub mod WalkLemmas
pub mod ReadLemmas
pub mod RowLemmas
pub mod RecordsLemmas
pub mod WholeLemmas
mod MarkFacts

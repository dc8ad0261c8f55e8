-- The proofs of these uses.
pub mod UncountedLemmas

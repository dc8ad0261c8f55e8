pub mod OrderLemmas
pub mod OftenLemmas
pub mod NumberLemmas
pub mod InterleavingLemmas

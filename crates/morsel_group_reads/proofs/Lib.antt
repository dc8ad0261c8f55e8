-- What a group-by says of rows that have only the columns that it reads.
pub mod KeptLemmas
pub mod LookupLemmas
pub mod FlawLemmas
pub mod SideLemmas
pub mod SaysLemmas

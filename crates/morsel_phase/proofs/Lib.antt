pub mod StageLemmas
pub mod UnitLemmas

pub mod NameLemmas
pub mod FieldLemmas
pub mod SoundLemmas
pub mod SetLemmas
pub mod SideLemmas
pub mod PlanLemmas

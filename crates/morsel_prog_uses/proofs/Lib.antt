pub mod SureLemmas

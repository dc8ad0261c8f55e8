pub mod CountLemmas
pub mod PlaceLemmas
pub mod MachineLemmas
pub mod FinishLemmas
pub mod WordLemmas
pub mod MixLemmas
pub mod PermutationLemmas

-- Things in rising order, and what local groups have of the loads that were taken.
pub mod RisingLemmas
pub mod PlaceLemmas
pub mod FollowLemmas
pub mod TakingLemmas
pub mod FinishLemmas
pub mod GiverLemmas

pub mod UnjoinedLemmas
pub mod SpawnLemmas
pub mod JoinLemmas

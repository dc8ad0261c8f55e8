pub mod JoinLemmas
pub mod BetweenLemmas

mod PlanLemmas
mod KeyLemmas
mod GroupingLemmas
mod TakeLemmas
mod CountLemmas
mod FreshLemmas
mod JoinLemmas
mod HeldLemmas
mod GroupsLemmas
mod OthersLemmas
mod FinishLemmas
mod BlankLemmas
mod CauseLemmas
mod FitLemmas
pub mod LocalLemmas

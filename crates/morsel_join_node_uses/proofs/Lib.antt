-- The proofs of these uses.
mod JoinLemmas

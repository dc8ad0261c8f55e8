use Rattle.morsel_group.proofs.GroupingLemmas.{merges_keys, merges_kept, keeps_nothing, keeps_grouped}
use Rattle.morsel_group.proofs.laws.parts_are_grouped.Goals as goal

pub returns-clause-keys : goal.returns-clause-keys
returns-clause-keys c = merges_keys

pub returns-clause-kept : goal.returns-clause-kept
returns-clause-kept c = merges_kept

pub returns-clause-nothing : goal.returns-clause-nothing
returns-clause-nothing c = keeps_nothing

pub returns-clause-grouped : goal.returns-clause-grouped
returns-clause-grouped c = keeps_grouped

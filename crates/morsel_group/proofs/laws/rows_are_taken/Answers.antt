use Rattle.morsel_group.proofs.TakeLemmas.{numbers_keys, takes_rows, numbers_others, takes_others}
use Rattle.morsel_group.proofs.laws.rows_are_taken.Goals as goal

pub returns-clause-keys : goal.returns-clause-keys
returns-clause-keys c = numbers_keys

pub returns-clause-rows : goal.returns-clause-rows
returns-clause-rows c = takes_rows

pub returns-clause-other_keys : goal.returns-clause-other_keys
returns-clause-other_keys c = numbers_others

pub returns-clause-others : goal.returns-clause-others
returns-clause-others c = takes_others

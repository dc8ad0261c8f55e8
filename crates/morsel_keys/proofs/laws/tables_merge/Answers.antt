use Rattle.morsel_keys.proofs.GroupLemmas.{reduces_parts, merges_tables}
use Rattle.morsel_keys.proofs.laws.tables_merge.Goals as goal

pub returns-clause-parts : goal.returns-clause-parts
returns-clause-parts given c = reduces_parts

pub returns-clause-merged : goal.returns-clause-merged
returns-clause-merged given c = merges_tables

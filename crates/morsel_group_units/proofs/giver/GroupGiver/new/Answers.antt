use Rattle.std.proofs.Common.{rules}
use Rattle.morsel_group_units.proofs.GiverLemmas.{did_none}
use Rattle.morsel_group_units.proofs.giver.GroupGiver.new.Goals as goal

pub returns-clause-none : goal.returns-clause-none
returns-clause-none c = did_none _ (search rules) (search rules)

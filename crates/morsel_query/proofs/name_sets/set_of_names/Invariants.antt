use Rattle.std.proofs.Common.{drop}
use Rattle.morsel_query.proofs.SetLemmas.{HasOthers}
use Rattle.morsel_query.proofs.name_sets.set_of_names.Given as goal

abbrev pub invariant-loop-name : goal.invariant-loop-name
invariant-loop-name l = HasOthers l.set (drop l.name-index l.names) l.names

use Rattle.std.proofs.Common.{drop}
use Rattle.morsel_meaning.specs.Values.{names_of}
use Rattle.morsel_query.proofs.SetLemmas.{HasOthers}
use Rattle.morsel_query.proofs.name_sets.set_of_columns.Given as goal

abbrev pub invariant-loop-column : goal.invariant-loop-column
invariant-loop-column l = HasOthers l.set (names_of (drop l.column-index l.columns)) (names_of l.columns)

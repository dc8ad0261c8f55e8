use Rattle.morsel_join.specs.LoneRows.{AreLone}
use Rattle.morsel_join_uses.proofs.tests.cuts.put_lone.Given as goal

abbrev pub invariant-calls : goal.invariant-calls
invariant-calls l = AreLone l.lone

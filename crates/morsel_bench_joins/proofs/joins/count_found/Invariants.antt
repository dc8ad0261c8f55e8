use Rattle.morsel_join.specs.Probings.{IsProbing}
use Rattle.morsel_bench_joins.proofs.joins.count_found.Given as goal

abbrev pub invariant-calls : goal.invariant-calls
invariant-calls l = IsProbing l.probing

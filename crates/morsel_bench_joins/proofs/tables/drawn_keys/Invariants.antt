use Rattle.std.proofs.Common.{◌≡◌}
use Rattle.morsel_meaning.specs.declared.value.ColType.TheVariants as types
use Rattle.morsel_bench_joins.proofs.tables.drawn_keys.Given as goal

abbrev pub invariant-loop : goal.invariant-loop
invariant-loop l = l.keys.kind ≡ types.Int

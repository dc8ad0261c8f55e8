use Rattle.std.proofs.Common.{◌≡◌}
use Rattle.morsel_meaning.specs.declared.value.ColType.TheVariants as types
use Rattle.morsel_timing.proofs.table.number_column.Given as goal

abbrev pub invariant-loop : goal.invariant-loop
invariant-loop l = l.column.kind ≡ types.Int

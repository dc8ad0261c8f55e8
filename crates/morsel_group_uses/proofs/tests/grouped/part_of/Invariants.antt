use Rattle.morsel_group.specs.Locals.{IsGroupBy}
use Rattle.morsel_group_uses.proofs.tests.grouped.part_of.Given as goal

abbrev pub invariant-loop-i : goal.invariant-loop-i
invariant-loop-i l = IsGroupBy l.table.schema l.spec l.local

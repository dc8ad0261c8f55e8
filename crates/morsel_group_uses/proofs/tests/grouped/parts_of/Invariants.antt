use Rattle.std.proofs.Common.{◌≡◌, length}
use Rattle.std.specs.List.{All}
use Rattle.morsel_group.specs.Locals.{IsGroupBy}
use Rattle.morsel_group_uses.proofs.tests.grouped.parts_of.Given as goal

abbrev pub invariant-loop-part : goal.invariant-loop-part
invariant-loop-part l = record {
  len : length l.locals.items ≡ l.part;
  each : All (IsGroupBy l.table.schema l.spec) l.locals.items;
}

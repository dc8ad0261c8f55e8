use Rattle.std.proofs.Common.{◌≡◌, ◌≤◌, ◌+◌, ◌++◌, length, take, drop}
use Rattle.morsel_ndjson.specs.Members.{members_at, members_room}
use Rattle.morsel_ndjson.proofs.lines.put_fitting.Given as goal

abbrev pub invariant-loop-column : goal.invariant-loop-column
invariant-loop-column l = record {
  rises : l.at ≤ l.to;
  within : l.to + members_room (drop l.column l.members) ≤ length l.out;
  written : take l.to l.out ++ members_at l.row (drop l.column l.members) ≡ take l.at l.fn.out ++ members_at l.row l.members;
}

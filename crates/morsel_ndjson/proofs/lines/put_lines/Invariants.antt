use Rattle.std.proofs.Common.{◌≡◌, ◌≤◌, ◌++◌, length, take, drop}
use Rattle.morsel_meaning.specs.Values.{names_of}
use Rattle.morsel_ndjson.specs.Ndjson.{ndjson}
use Rattle.morsel_ndjson.proofs.lines.put_lines.Given as goal

abbrev pub invariant-loop-row : goal.invariant-loop-row
invariant-loop-row l = record {
  rises : l.at ≤ l.to;
  within : l.to ≤ length l.out.items;
  written : take l.to l.out.items ++ ndjson (names_of l.frame.schema) (drop l.row l.frame.rows)
      ≡ take l.at l.fn.out.items ++ ndjson (names_of l.frame.schema) l.frame.rows;
}

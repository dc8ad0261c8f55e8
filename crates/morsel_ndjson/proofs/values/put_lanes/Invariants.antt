use Rattle.std.proofs.Common.{◌≡◌, ◌≤◌, ◌+◌, ◌-◌, ◌++◌, length, take}
use Rattle.morsel_ndjson.specs.Members.{ArePlain}
use Rattle.morsel_ndjson.proofs.values.put_lanes.Given as goal

abbrev pub invariant-loop-from : goal.invariant-loop-from
invariant-loop-from l = record {
  within : l.from ≤ length l.text;
  plain : ArePlain 0 l.from l.text;
  written : take (l.at + l.from) l.out ≡ take l.at l.fn.out ++ take l.from l.text;
}

abbrev pub decreases-loop-from : goal.decreases-loop-from
decreases-loop-from l = length l.text - l.from

use Rattle.std.proofs.Common.{◌≡◌, ◌≤◌, ◌+◌, ◌*◌, ◌++◌, take}
use Rattle.std.specs.List.{flat_map}
use Rattle.morsel_ndjson.specs.Ndjson.{escaped}
use Rattle.morsel_ndjson.proofs.values.put_chars.Given as goal

abbrev pub invariant-loop-byte : goal.invariant-loop-byte
invariant-loop-byte l = record {
  rises : l.at ≤ l.to;
  within : l.to ≤ l.at + 6 * l.byte-index;
  written : take l.to l.out ≡ take l.at l.fn.out ++ flat_map escaped (take l.byte-index l.text);
}

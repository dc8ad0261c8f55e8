use Rattle.std.proofs.Common.{◌≡◌, ◌≤◌, ◌+◌, ◌-◌, ◌++◌, take}
use Rattle.morsel_ndjson.proofs.cursor.put_more_words.Given as goal

abbrev pub invariant-loop-from : goal.invariant-loop-from
invariant-loop-from l = record { short : l.from ≤ l.len + 15; written : take (l.at + l.from) l.out ≡ take l.at l.fn.out ++ take l.from l.padded }

abbrev pub decreases-loop-from : goal.decreases-loop-from
decreases-loop-from l = l.len - l.from

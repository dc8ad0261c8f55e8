use Rattle.std.proofs.Common.{◌≡◌, ◌++◌, drop}
use Rattle.morsel_join.specs.Payloads.{named_fields}
use Rattle.morsel_join.proofs.payload.put_fields.Given as goal

abbrev pub invariant-loop-at : goal.invariant-loop-at
invariant-loop-at l = l.put.items ++ named_fields (drop l.at l.names) (drop l.at l.fields) ≡ l.initial.put.items ++ named_fields l.names l.fields

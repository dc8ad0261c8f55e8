use Rattle.std.proofs.Common.{◌≡◌, ◌++◌, drop}
use Rattle.morsel_meaning.specs.Values.{names_of}
use Rattle.morsel_ndjson.specs.Members.{beginnings}
use Rattle.morsel_ndjson.proofs.beginning.make_beginnings.Given as goal

abbrev pub invariant-loop-at : goal.invariant-loop-at
invariant-loop-at l = l.begins.items ++ beginnings l.mark (names_of (drop l.at l.schema)) ≡ beginnings 123 (names_of l.schema)

use Rattle.std.proofs.Common.{◌≡◌, ◌++◌, drop}
use Rattle.morsel_grammar.specs.Reading.{chosen}
use Rattle.morsel_scan.proofs.source_fields.push_used.Given as goal

abbrev pub invariant-loop-at : goal.invariant-loop-at
invariant-loop-at l = l.fields.items ++ chosen (drop l.at l.used) (drop l.at l.schema) ≡ l.fn.fields.items ++ chosen l.used l.schema

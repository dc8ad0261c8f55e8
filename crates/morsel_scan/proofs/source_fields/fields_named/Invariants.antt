use Rattle.std.proofs.Common.{◌≡◌, take}
use Rattle.morsel_meaning.specs.Values.{names_of}
use Rattle.morsel_scan.proofs.source_fields.fields_named.Given as goal

abbrev pub invariant-loop-column : goal.invariant-loop-column
invariant-loop-column l = names_of l.fields.items ≡ take l.column-index l.columns

use Rattle.std.proofs.Common.{◌≤◌, ◌-◌, length, List}
use Rattle.morsel_grammar.specs.Grammar.{CsvRecord, Records}
use Rattle.morsel_cut.proofs.RowLemmas.{HasPassedTo}
use Rattle.morsel_cut.proofs.HeadLemmas.{HasPassedWhole}
use Rattle.morsel_cut.proofs.header.head_end.Given as goal

abbrev pub invariant-loop-at : goal.invariant-loop-at
invariant-loop-at l = record {
  within : l.at ≤ length l.bytes;
  passed : (records : List CsvRecord) → Records l.options l.bytes records → HasPassedTo l.options l.bytes l.at records;
  whole : (records : List CsvRecord) → Records l.options l.bytes records → HasPassedWhole l.options l.bytes l.at records;
}

abbrev pub decreases-loop-at : goal.decreases-loop-at
decreases-loop-at l = length l.bytes - l.at

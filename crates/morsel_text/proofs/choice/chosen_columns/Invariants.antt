use Rattle.std.proofs.Common.{◌≡◌, ◌++◌, length, drop}
use Rattle.morsel_grammar.specs.Reading.{chosen}
use Rattle.morsel_text.proofs.choice.chosen_columns.Given as goal

abbrev pub invariant-loop-at : goal.invariant-loop-at
invariant-loop-at l = record {
  so_far : l.kept.items ++ chosen (drop l.at l.used) (drop l.at l.columns.items) ≡ chosen l.used l.fn.columns.items;
  width : length l.columns.items ≡ length l.used;
}

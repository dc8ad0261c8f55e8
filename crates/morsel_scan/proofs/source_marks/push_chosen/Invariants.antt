use Rattle.std.proofs.Common.{◌≡◌, ◌++◌, drop}
use Rattle.morsel_grammar.specs.Reading.{chosen}
use Rattle.morsel_scan.proofs.source_marks.push_chosen.Given as goal

abbrev pub invariant-loop-at : goal.invariant-loop-at
invariant-loop-at l = l.mask.items ++ chosen (drop l.at l.used) (drop l.at l.marks) ≡ l.fn.mask.items ++ chosen l.used l.marks

use Rattle.morsel_text.specs.RawFields.{PassedTo}
use Rattle.morsel_text.proofs.split.plain_len_from.Given as goal

abbrev pub invariant-loop-at : goal.invariant-loop-at
invariant-loop-at l = PassedTo l.options l.text l.at

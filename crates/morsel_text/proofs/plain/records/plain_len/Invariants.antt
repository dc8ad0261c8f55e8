use Rattle.morsel_text.specs.RawFields.{PassedTo}
use Rattle.morsel_text.proofs.plain.records.plain_len.Given as goal

abbrev pub invariant-loop-at : goal.invariant-loop-at
invariant-loop-at l = PassedTo l.options l.text l.at

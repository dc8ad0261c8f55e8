use Rattle.std.proofs.Common.{◌≡◌, drop}
use Rattle.std.specs.Prelude.{is_some}
use Rattle.morsel_grammar.specs.Split.{behind_front}
use Rattle.morsel_cut.proofs.record.begins_with.Given as goal

abbrev pub invariant-loop-at : goal.invariant-loop-at
invariant-loop-at l = is_some (behind_front l.front l.text) ≡ is_some (behind_front (drop l.at l.front) (drop l.at l.text))

use Rattle.std.proofs.Common.{◌≡◌, ◌+◌, drop}
use Rattle.std.specs.Prelude.{Some}
use Rattle.morsel_cut.specs.Places.{cut_state, options_with}
use Rattle.morsel_cut.specs.FirstEnds.{first_end, record_size}
use Rattle.morsel_cut.proofs.record.prefix_size.Given as goal

abbrev pub invariant-loop-at : goal.invariant-loop-at
invariant-loop-at l = record_size (options_with l.delimiters (Some l.prefix)) l.text
    ≡ l.at + first_end (options_with l.delimiters (Some l.prefix)) (cut_state l.state) (drop l.at l.text)

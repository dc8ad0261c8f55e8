use Rattle.std.proofs.Common.{take}
use Rattle.std.specs.Prelude.{Some}
use Rattle.morsel_cut.specs.Places.{cut_state, options_with}
use Rattle.morsel_cut.specs.Runs.{Passes}
use Rattle.morsel_cut.proofs.prefix.pass_bytes.Given as goal

abbrev pub invariant-loop-at : goal.invariant-loop-at
invariant-loop-at l = Passes (options_with l.delimiters (Some l.prefix)) (cut_state l.fn.from) (take l.at l.text) l.passed

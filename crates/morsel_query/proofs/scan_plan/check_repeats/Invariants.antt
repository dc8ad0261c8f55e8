use Rattle.std.proofs.Common.{◌≡◌, ℕ, List, drop}
use Rattle.morsel_frame.specs.Names.{first_known, first_repeated}
use Rattle.morsel_frame.proofs.SeenNames.{HoldsNames}
use Rattle.morsel_query.proofs.scan_plan.check_repeats.Given as goal

abbrev pub invariant-loop-name : goal.invariant-loop-name
invariant-loop-name l = (before : List (List ℕ)) × HoldsNames l.seen before × (first_repeated l.names ≡ first_known before (drop l.name-index l.names))

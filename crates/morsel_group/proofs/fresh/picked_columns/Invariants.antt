use Rattle.std.proofs.Common.{◌≡◌, take}
use Rattle.morsel_group.specs.Fresh.{picked_from}
use Rattle.morsel_group.proofs.fresh.picked_columns.Given as goal

abbrev pub invariant-loop-at : goal.invariant-loop-at
invariant-loop-at l = l.columns.items ≡ picked_from l.frame (take l.at-index l.places) l.rows

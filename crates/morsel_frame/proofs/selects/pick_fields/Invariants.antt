use Rattle.std.proofs.Common.{◌≡◌, take}
use Rattle.morsel_frame.specs.Tables.{fields_at}
use Rattle.morsel_frame.proofs.selects.pick_fields.Given as goal

abbrev pub invariant-loop-at : goal.invariant-loop-at
invariant-loop-at l = l.picked.items ≡ fields_at l.fields (take l.at-index l.places)

use Rattle.std.proofs.Common.{◌≡◌, ◌++◌, take}
use Rattle.morsel_frame.specs.Tables.{fields_at}
use Rattle.morsel_group.proofs.plan.push_key_fields.Given as goal

abbrev pub invariant-loop-at : goal.invariant-loop-at
invariant-loop-at l = l.fields.items ≡ l.initial.fields.items ++ fields_at l.input (take l.at-index l.places)

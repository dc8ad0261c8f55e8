use Rattle.std.proofs.Common.{◌≡◌, take}
use Rattle.morsel_meaning.specs.Values.{kinds_of}
use Rattle.morsel_group.proofs.blank.field_kinds.Given as goal

abbrev pub invariant-loop-field : goal.invariant-loop-field
invariant-loop-field l = l.kinds.items ≡ kinds_of (take l.field-index l.fields)

use Rattle.std.proofs.Common.{◌≡◌, take, map}
use Rattle.morsel_join.specs.Payloads.{left_name}
use Rattle.morsel_join.proofs.payload.left_names.Given as goal

abbrev pub invariant-loop-field : goal.invariant-loop-field
invariant-loop-field l = l.names.items ≡ map (λ f. left_name l.args l.keys f.name) (take l.field-index l.fields)

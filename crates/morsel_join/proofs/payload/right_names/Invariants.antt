use Rattle.std.proofs.Common.{◌≡◌, take, map}
use Rattle.morsel_meaning.specs.Values.{names_of}
use Rattle.morsel_join.specs.Payloads.{right_name}
use Rattle.morsel_join.proofs.payload.right_names.Given as goal

abbrev pub invariant-loop-field : goal.invariant-loop-field
invariant-loop-field l = l.names.items ≡ map (λ f. right_name l.args l.keys (names_of l.lefts) f.name) (take l.field-index l.fields)

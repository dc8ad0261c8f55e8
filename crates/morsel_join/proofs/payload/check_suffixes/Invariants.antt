use Rattle.std.proofs.Common.{◌≡◌, drop}
use Rattle.morsel_meaning.specs.Values.{names_of}
use Rattle.morsel_join.specs.Payloads.{first_clash}
use Rattle.morsel_join.proofs.payload.check_suffixes.Given as goal

abbrev pub invariant-loop-field : goal.invariant-loop-field
invariant-loop-field l = first_clash l.args l.keys (names_of l.lefts) l.fields ≡ first_clash l.args l.keys (names_of l.lefts) (drop l.field-index l.fields)

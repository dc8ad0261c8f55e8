use Rattle.std.proofs.Common.{◌≡◌, ℕ, List, drop}
use Rattle.morsel_meaning.specs.Values.{names_of}
use Rattle.morsel_frame.specs.Names.{first_known, first_repeated}
use Rattle.morsel_frame.proofs.SeenNames.{HoldsNames}
use Rattle.morsel_frame.proofs.schema.repeated.Given as goal

abbrev pub invariant-loop-field : goal.invariant-loop-field
invariant-loop-field l = (before : List (List ℕ)) × HoldsNames l.seen before
    × (first_repeated (names_of l.fields) ≡ first_known before (names_of (drop l.field-index l.fields)))

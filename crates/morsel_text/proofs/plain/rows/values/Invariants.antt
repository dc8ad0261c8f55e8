use Rattle.std.proofs.Common.{◌≡◌}
use Rattle.morsel_meaning.specs.Values.{kinds_of}
use Rattle.morsel_grammar.specs.Reading.{used_values}
use Rattle.morsel_text.specs.Plain.{cells_with}
use Rattle.morsel_text.proofs.PlainLemmas.{from_place}
use Rattle.morsel_text.proofs.plain.rows.values.Given as goal

abbrev pub invariant-loop-at : goal.invariant-loop-at
invariant-loop-at l =
    let cells = cells_with l.options (kinds_of l.schema) l.fields in
    from_place l.used cells l.values.items l.at ≡ used_values l.used cells

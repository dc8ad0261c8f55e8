use Rattle.std.proofs.Common.{◌≡◌, length, map}
use Rattle.morsel_text.specs.RawFields.{shown}
use Rattle.morsel_text.specs.Pushes.{with_fields}
use Rattle.morsel_text.proofs.RowLemmas.{fields_from}
use Rattle.morsel_text.proofs.rows.push_fields.Given as goal

abbrev pub invariant-loop-at : goal.invariant-loop-at
invariant-loop-at l = record {
  so_far : fields_from l.options l.used l.columns.items (map shown l.fields) l.at
      ≡ with_fields l.options l.used l.fn.columns.items (map shown l.fields);
  width : length l.columns.items ≡ length l.fields;
}

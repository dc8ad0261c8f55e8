use Rattle.std.proofs.Common.{◌≡◌, length, map, take}
use Rattle.morsel_meaning.specs.declared.value.ColType.TheVariants as types
use Rattle.morsel_meaning.specs.declared.value.Value.TheVariants as values
use Rattle.morsel_frame.specs.Columns.{masked}
use Rattle.morsel_text.specs.Batches.{IsColumnOf}
use Rattle.morsel_text.proofs.ints.int_column.Given as goal

abbrev pub invariant-loop-field : goal.invariant-loop-field
invariant-loop-field l = record {
  column : IsColumnOf l.options types.Int (take l.field-index l.fields) (record { kind = types.Int; values = masked l.valid.items (map values.Int l.numbers.items) });
  width : length l.valid.items ≡ length l.numbers.items;
}

use Rattle.std.proofs.Common.{◌≡◌, take, length}
use Rattle.morsel_meaning.specs.Values.{kinds_of}
use Rattle.morsel_frame.specs.Tables.{fields_at}
use Rattle.morsel_join.proofs.key_columns.kinds_at.Given as goal

abbrev pub invariant-loop-at : goal.invariant-loop-at
invariant-loop-at l = record {
  done : l.kinds.items ≡ kinds_of (fields_at l.schema (take l.at-index l.places));
  len : length l.kinds.items ≡ l.at-index;
}

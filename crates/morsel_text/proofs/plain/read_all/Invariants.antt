use Rattle.std.proofs.Common.{◌≡◌, ◌≤◌, ◌+◌, ◌-◌, length}
use Rattle.morsel_meaning.specs.Values.{kinds_of}
use Rattle.morsel_text.specs.Pushes.{column_kinds}
use Rattle.morsel_text.specs.Steps.{left}
use Rattle.morsel_text.proofs.PlainLemmas.{PlainSo}
use Rattle.morsel_text.proofs.plain.read_all.Given as goal

abbrev pub invariant-loop : goal.invariant-loop
invariant-loop l =
    let kinds = kinds_of l.reader.schema.now in
    record {
      so_far : PlainSo (left (length l.fn.bytes) l.reader.options.now kinds l.reader.used.now l.fn.head l.fn.at l.fn.bytes)
          (length l.fn.columns.items) (column_kinds l.fn.columns.items) l.height l.columns.items
          (left (length l.fn.bytes - l.counter) l.reader.options.now kinds l.reader.used.now l.awaits_header l.place l.rest);
      places : l.place + length l.rest ≡ l.fn.at + length l.fn.bytes;
      height : l.height ≤ l.counter;
    }

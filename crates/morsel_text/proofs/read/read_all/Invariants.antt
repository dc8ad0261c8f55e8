use Rattle.std.proofs.Common.{◌≡◌, ◌≤◌, ◌+◌, true, length}
use Rattle.std.specs.Prelude.{IsUtf8}
use Rattle.morsel_text.specs.Pushes.{column_kinds}
use Rattle.morsel_text.specs.Steps.{left}
use Rattle.morsel_text.proofs.StepLemmas.{ReadSo}
use Rattle.morsel_text.proofs.read.read_all.Given as goal

abbrev pub invariant-loop : goal.invariant-loop
invariant-loop l =
    let ks = column_kinds l.fn.columns.items in
    record {
      so_far : ReadSo (left (length l.fn.bytes) l.reader.options.now ks l.reader.used.now l.fn.head l.fn.at l.fn.bytes) l.reader.used.now ks l.height l.columns.items
          (left (length l.rest) l.reader.options.now ks l.reader.used.now l.awaits_header l.place l.rest);
      places : l.place + length l.rest ≡ l.fn.at + length l.fn.bytes;
      height : l.height + length l.rest ≤ length l.fn.bytes;
      short : length l.rest + l.counter ≤ length l.fn.bytes;
      utf8 : l.is_utf8 ≡ true → IsUtf8 l.rest;
    }

use Rattle.std.proofs.Common.{◌≡◌, ◌+◌, ◌-◌, length}
use Rattle.morsel_meaning.specs.Values.{kinds_of}
use Rattle.morsel_grammar.specs.Reading.{reading, reading_up_to, row_place}
use Rattle.morsel_text.proofs.place.place_of_row.Given as goal

abbrev pub invariant-loop : goal.invariant-loop
invariant-loop l = record {
  so_far : row_place (reading_up_to (length l.fn.bytes - l.counter) l.options (kinds_of l.schema) l.awaits_header l.place l.rest).rows l.before
      ≡ row_place (reading l.options (kinds_of l.schema) l.fn.head l.fn.at l.fn.bytes).rows l.fn.row;
  places : l.place + length l.rest ≡ l.fn.at + length l.fn.bytes;
}

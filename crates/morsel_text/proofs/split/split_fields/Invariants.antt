use Rattle.std.proofs.Common.{◌≡◌, ◌≤◌, ◌+◌, ◌-◌, List, length, map}
use Rattle.morsel_grammar.specs.Grammar.{CsvField}
use Rattle.morsel_grammar.specs.Split.{fields_up_to}
use Rattle.morsel_text.specs.RawFields.{shown, with_front, AreKept}
use Rattle.morsel_text.proofs.split.split_fields.Given as goal

abbrev pub invariant-loop : goal.invariant-loop
invariant-loop l = record {
  found : (all : List CsvField) × AreKept l.limit (map shown l.fields.items) all
      × (with_front all (fields_up_to (length l.fn.text + 1 - l.counter) l.options l.rest) ≡ fields_up_to (length l.fn.text + 1) l.options l.fn.text);
  within : length l.rest ≤ length l.fn.text;
}

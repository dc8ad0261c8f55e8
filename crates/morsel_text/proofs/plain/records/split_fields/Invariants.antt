use Rattle.std.proofs.Common.{◌≡◌, ◌≤◌, ◌+◌, ◌-◌, length}
use Rattle.morsel_grammar.specs.Split.{fields_up_to}
use Rattle.morsel_text.specs.RawFields.{with_front}
use Rattle.morsel_text.proofs.plain.records.split_fields.Given as goal

abbrev pub invariant-loop : goal.invariant-loop
invariant-loop l = record {
  found : with_front l.fields.items (fields_up_to (length l.fn.text + 1 - l.counter) l.options l.rest)
      ≡ fields_up_to (length l.fn.text + 1) l.options l.fn.text;
  within : length l.rest ≤ length l.fn.text;
}

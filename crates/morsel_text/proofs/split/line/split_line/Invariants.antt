use Rattle.std.proofs.Common.{◌≡◌, ◌<◌, ◌≤◌, ◌==◌, ◌+◌, ◌-◌, length, map}
use Rattle.std.specs.Int.{trailing_zeros, w64}
use Rattle.morsel_grammar.specs.Split.{fields_up_to}
use Rattle.morsel_text.specs.RawFields.{shown, with_front}
use Rattle.morsel_text.specs.Lines.{IsPlainLine, Marks}
use Rattle.morsel_text.proofs.split.line.split_line.Given as goal

abbrev pub invariant-loop-at : goal.invariant-loop-at
invariant-loop-at l = record {
  short : l.left < 64;
  few : length l.fields.items + l.left < 64;
  line : IsPlainLine l.options l.rest l.left;
  marked : Marks (λ b. b == l.options.separator) l.rest l.left l.marks;
  lowest : l.at ≡ trailing_zeros w64 l.marks;
  within : length l.fields.items + length l.rest ≤ length l.fn.text;
  found : with_front (map shown l.fields.items) (fields_up_to (length l.fn.text + 1 - length l.fields.items) l.options l.rest)
      ≡ fields_up_to (length l.fn.text + 1) l.options l.fn.text;
}

abbrev pub decreases-loop-at : goal.decreases-loop-at
decreases-loop-at l = l.left

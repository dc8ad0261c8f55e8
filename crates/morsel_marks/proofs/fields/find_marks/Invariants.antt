use Rattle.std.proofs.Common.{◌≡◌, ◌≤◌, ◌==◌, ◌||◌, ◌-◌, true, false, length, take}
use Rattle.morsel_grammar.specs.Split.{is_quote}
use Rattle.morsel_marks.specs.Marks.{field_start, quotes_after, is_sound_from, marks_from}
use Rattle.morsel_marks.proofs.fields.find_marks.Given as goal

abbrev pub invariant-loop-at : goal.invariant-loop-at
invariant-loop-at l = record {
  within : l.at ≤ length l.text;
  fewer : l.count ≤ l.at;
  kept : length l.out ≡ length l.fn.out;
  state : l.state ≡ quotes_after (is_quote l.quote) (λ b. b == l.separator || b == l.eol) field_start (take l.at l.text);
  sound : is_sound_from (is_quote l.quote) (λ b. b == l.separator || b == l.eol) field_start (take l.at l.text) ≡ true;
  marks : take l.count l.out ≡ marks_from (is_quote l.quote) (λ b. b == l.separator || b == l.eol) 0 false (take l.at l.text);
}

abbrev pub decreases-loop-at : goal.decreases-loop-at
decreases-loop-at l = length l.text - l.at

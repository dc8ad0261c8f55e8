use Rattle.std.proofs.Common.{◌≡◌, ◌≤◌, ◌+◌, ◌-◌, length, drop}
use Rattle.morsel_grammar.specs.Machine.{place_step, is_after_eol, AfterEol}
use Rattle.morsel_cut.specs.Places.{cut_place, delimiter_options}
use Rattle.morsel_cut.specs.FirstEnds.{first_place}
use Rattle.morsel_cut.proofs.record.plain_size.Given as goal

abbrev pub invariant-loop-at : goal.invariant-loop-at
invariant-loop-at l = record {
  within : l.at ≤ length l.text;
  size : first_place (place_step (delimiter_options l.delimiters)) is_after_eol AfterEol l.text
      ≡ l.at + first_place (place_step (delimiter_options l.delimiters)) is_after_eol (cut_place l.place) (drop l.at l.text);
}

abbrev pub decreases-loop-at : goal.decreases-loop-at
decreases-loop-at l = length l.text - l.at

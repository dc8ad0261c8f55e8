use Rattle.std.proofs.Common.{◌≡◌, ◌≤◌, ◌+◌, length}
use Rattle.morsel_grammar.specs.Split.{line_at}
use Rattle.morsel_text.proofs.plain.records.behind_line.Given as goal

abbrev pub invariant-loop : goal.invariant-loop
invariant-loop l = record {
  found : (line_at l.eol l.rest).1 ≡ (line_at l.eol l.fn.text).1;
  left : length l.rest + l.counter ≤ length l.fn.text;
}

use Rattle.std.proofs.Common.{◌≡◌, ◌≤◌, ◌+◌, length}
use Rattle.morsel_grammar.specs.Split.{quoted_at}
use Rattle.morsel_text.specs.RawFields.{rest_of}
use Rattle.morsel_text.proofs.split.behind_quotes.Given as goal

abbrev pub invariant-loop : goal.invariant-loop
invariant-loop l = record {
  found : rest_of (quoted_at l.quote l.rest) ≡ rest_of (quoted_at l.quote l.fn.text);
  left : length l.rest + l.counter ≤ length l.fn.text;
}

use Rattle.std.proofs.Common.{◌≡◌, ◌≤◌, ◌+◌, length}
use Rattle.morsel_grammar.specs.Split.{quoted_at}
use Rattle.morsel_text.proofs.SplitLemmas.{with_content}
use Rattle.morsel_text.proofs.plain.records.quoted.Given as goal

abbrev pub invariant-loop : goal.invariant-loop
invariant-loop l = record {
  found : with_content l.bytes.items (quoted_at l.quote l.rest) ≡ quoted_at l.quote l.fn.text;
  left : length l.rest + l.counter ≤ length l.fn.text;
}

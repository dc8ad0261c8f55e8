use Rattle.std.proofs.Common.{◌≡◌, ◌≤◌, length, drop}
use Rattle.morsel_grammar.specs.Split.{behind_front}
use Rattle.morsel_text.proofs.parts.behind_front.Given as goal

abbrev pub invariant-loop-b : goal.invariant-loop-b
invariant-loop-b l = record {
  found : behind_front (drop l.b-index l.front) l.rest ≡ behind_front l.front l.fn.text;
  within : length l.rest ≤ length l.fn.text;
}

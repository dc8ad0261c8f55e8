use Rattle.std.proofs.Common.{◌≡◌, take, replicate}
use Rattle.morsel_text.proofs.empty_lines.empty_lines.Given as goal

abbrev pub invariant-loop-lines : goal.invariant-loop-lines
invariant-loop-lines l = take l.lines l.text ≡ replicate l.lines l.eol

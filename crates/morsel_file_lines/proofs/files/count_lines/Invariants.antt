use Rattle.std.proofs.Common.{◌-◌, ◌+◌, ◌≡◌, ◌≤◌}
use Rattle.morsel_file_lines.specs.Lines.{IsLineOf}
use Rattle.morsel_file_lines.proofs.files.count_lines.Given as goal

-- the line of the place that was reached is known
abbrev pub invariant-loop-from : goal.invariant-loop-from
invariant-loop-from g l = record {
  same_sizes : (g.H.Io.seen l.io).sizes ≡ (g.H.Io.seen l.fn.io).sizes;
  same_held : (g.H.Io.seen l.io).held ≡ (g.H.Io.seen l.fn.io).held;
  within : l.from ≤ l.at;
  fits : l.line ≤ 1 + l.from;
  is_line : IsLineOf (g.H.Io.seen l.fn.io).held l.file.0 l.from l.line;
}

abbrev pub decreases-loop-from : goal.decreases-loop-from
decreases-loop-from g l = l.at - l.from

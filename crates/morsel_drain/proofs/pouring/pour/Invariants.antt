use Rattle.std.proofs.Common.{◌≡◌, ◌+◌, ◌*◌, ◌^◌, ◌<◌, ◌≤◌, Ok}
use Rattle.morsel_drive.specs.Driving.{WritesOn}
use Rattle.morsel_drain.proofs.PourLemmas.{ToldText}
use Rattle.morsel_drain.proofs.pouring.pour.Given as goal

-- what was written so far, and that the line and the text go together
abbrev pub invariant-turns : goal.invariant-turns
invariant-turns g l = record {
  made : 0 < (g.H.Io.seen l.io).sinks;
  stays : (begun : g.row.L.Denot) → g.L.Line.stays begun l.fn.line → g.L.Line.stays begun l.line;
  rows : l.writer.rows ≡ l.written.rows;
  joined : g.L.Line.is_joined l.line;
  few : l.steps ≤ l.fn.steps + 512 * l.reached.furthest + l.reached.idle;
  idle : l.reached.idle ≤ 512;
  far : l.reached.furthest ≤ l.written.rows;
  small : l.written.rows < 2 ^ 64;
  stands : WritesOn {T = Unit {0}} (ToldText {J = g.row.L-Job.Denot} g.L.Job.LineJob.axis (g.L.Line.serves l.fn.line) (g.L.Line.serves l.line) l.written) (g.H.Io.seen l.fn.io) (Ok tt) (g.H.Io.seen l.io);
}

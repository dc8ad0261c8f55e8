use Rattle.std.proofs.Common.{◌≡◌, ◌^◌, ◌<◌, ◌≤◌, ℕ, Ok}
use Rattle.morsel_drive.specs.Driving.{WritesOn}
use Rattle.morsel_drive.proofs.TurnLemmas.{ToldWrites}
use Rattle.morsel_drive.proofs.caller.write_on.Given as goal

-- the text is kept as it was, further on
abbrev pub invariant-parts : goal.invariant-parts
invariant-parts g l = record {
  made : 0 < (g.H.Io.seen l.io).sinks;
  stays : (begun : g.row.L.Denot) → g.L.Line.stays begun l.fn.line → g.L.Line.stays begun l.line;
  told : (job : g.row.L-Job.Denot) → g.L.Line.told l.line job → g.L.Line.told l.fn.line job;
  rows : l.writer.rows ≡ l.written.rows;
  joined : g.L.Line.is_joined l.fn.line → g.L.Line.is_joined l.line;
  within : (size : ℕ) → l.given ≤ size → l.fn.written.next ≤ size → l.written.next ≤ size;
  more : l.fn.written.rows ≤ l.written.rows;
  small : l.fn.written.rows < 2 ^ 64 → l.written.rows < 2 ^ 64;
  stands : WritesOn {T = Unit {0}} (ToldWrites {J = g.row.L-Job.Denot} g.L.Job.LineJob.axis (g.L.Line.serves l.fn.line) (g.L.Line.serves l.line) l.fn.written l.written) (g.H.Io.seen l.fn.io) (Ok tt) (g.H.Io.seen l.io);
}

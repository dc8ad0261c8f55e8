use Rattle.std.proofs.Common.{◌≡◌, ◌+◌, ◌*◌, ◌^◌, ◌<◌, ◌≤◌}
use Rattle.morsel_drive.specs.Driving.{HoldsFitting, HasEnded}
use Rattle.morsel_drive.specs.Sweeping.{counted_rows}
use Rattle.morsel_drive.proofs.TurnLemmas.{Stands, ToldMidst}
use Rattle.morsel_drive.proofs.caller.drive.Given as goal

-- what was done so far, and that the reader, the line and the text go together
abbrev pub invariant-turns : goal.invariant-turns
invariant-turns g l = record {
  suits : g.S.PieceSource.suits l.reader (g.H.Io.seen l.io);
  made : 0 < (g.H.Io.seen l.io).sinks;
  stays : (begun : g.row.L.Denot) → g.L.Line.stays begun l.fn.line → g.L.Line.stays begun l.line;
  told : (job : g.row.L-Job.Denot) → g.L.Line.told l.line job → g.L.Line.told l.fn.line job;
  rows : l.writer.rows ≡ l.written.rows;
  joined : g.L.Line.is_joined l.line;
  size : g.S.PieceSource.size l.reader (g.H.Io.seen l.fn.io).sizes ≡ g.S.PieceSource.size l.fn.reader (g.H.Io.seen l.fn.io).sizes;
  within : g.S.PieceSource.given l.reader ≤ g.S.PieceSource.size l.fn.reader (g.H.Io.seen l.fn.io).sizes;
  next : l.written.next ≤ g.S.PieceSource.size l.fn.reader (g.H.Io.seen l.fn.io).sizes;
  few : l.steps ≤ l.fn.steps + 512 * l.reached.furthest + l.reached.idle;
  idle : l.reached.idle ≤ 512;
  far : l.reached.furthest ≤ 2 * g.S.PieceSource.size l.fn.reader (g.H.Io.seen l.fn.io).sizes + counted_rows l.progress l.written.rows;
  small : l.written.rows < 2 ^ 64;
  chunk : g.S.PieceSource.chunk l.reader ≡ g.S.PieceSource.chunk l.fn.reader;
  same : (g.H.Io.seen l.io).sizes ≡ (g.H.Io.seen l.fn.io).sizes;
  fits : HoldsFitting l.input;
  ended : HasEnded l.input → g.S.PieceSource.ended l.reader;
  stands : Stands (g.S.PieceSource.did l.fn.reader l.reader (g.H.Io.seen l.fn.io).sizes) (ToldMidst {J = g.row.L-Job.Denot} g.L.Job.LineJob.axis g.L.Job.LineJob.is_piece g.L.Job.LineJob.is_end
      (λ job. g.S.PieceSource.reads l.fn.reader job (g.H.Io.seen l.fn.io)) (g.L.Line.serves l.fn.line)
      (λ job. g.S.PieceSource.reads l.reader job (g.H.Io.seen l.io)) (g.L.Line.serves l.line)
      l.bound (g.S.PieceSource.chunk l.fn.reader) (g.S.PieceSource.given l.reader) (g.S.PieceSource.asked l.reader) l.input l.written)
      (g.H.Io.seen l.fn.io) (g.H.Io.seen l.io);
}

use Rattle.std.proofs.Common.{◌≡◌, ◌+◌, ◌*◌, ◌≤◌}
use Rattle.morsel_drive.specs.Lines.{ReadsFor}
use Rattle.morsel_drive.specs.Driving.{HoldsFitting, HasEnded}
use Rattle.morsel_drain.specs.Finding.{IsRowsEnd}
use Rattle.morsel_drain.proofs.DrainLemmas.{ToldMidst}
use Rattle.morsel_drain.proofs.draining.drain.Given as goal

-- what was read so far, and that the reader and the line go together
abbrev pub invariant-turns : goal.invariant-turns
invariant-turns g l = record {
  suits : g.S.PieceSource.suits l.reader (g.H.Io.seen l.io);
  stays : (begun : g.row.L.Denot) → g.L.Line.stays begun l.fn.line → g.L.Line.stays begun l.line;
  told : (job : g.row.L-Job.Denot) → g.L.Line.told l.line job → g.L.Line.told l.fn.line job;
  joined : g.L.Line.is_joined l.line;
  size : g.S.PieceSource.size l.reader (g.H.Io.seen l.fn.io).sizes ≡ g.S.PieceSource.size l.fn.reader (g.H.Io.seen l.fn.io).sizes;
  within : g.S.PieceSource.given l.reader ≤ g.S.PieceSource.size l.fn.reader (g.H.Io.seen l.fn.io).sizes;
  few : l.steps + l.finding.spare ≤ l.fn.steps + 512 * l.reached.furthest + l.reached.idle + 512 * (l.per_row * l.finding.rows);
  small : l.finding.rows ≤ 4294967295;
  found : (job : g.row.L-Job.Denot) → g.S.PieceSource.reads l.fn.reader job (g.H.Io.seen l.fn.io) → g.L.Line.serves l.fn.line job → IsRowsEnd (g.L.Job.LineJob.is_piece job) l.finding.rows;
  idle : l.reached.idle ≤ 512;
  far : l.reached.furthest ≤ g.S.PieceSource.size l.fn.reader (g.H.Io.seen l.fn.io).sizes;
  same : (g.H.Io.seen l.io).sizes ≡ (g.H.Io.seen l.fn.io).sizes;
  fits : HoldsFitting l.input;
  ended : HasEnded l.input → g.S.PieceSource.ended l.reader;
  reads : ReadsFor (g.S.PieceSource.did l.fn.reader l.reader (g.H.Io.seen l.fn.io).sizes) (ToldMidst {J = g.row.L-Job.Denot} g.L.Job.LineJob.axis g.L.Job.LineJob.is_piece g.L.Job.LineJob.is_end
      (λ job. g.S.PieceSource.reads l.fn.reader job (g.H.Io.seen l.fn.io)) (g.L.Line.serves l.fn.line)
      (λ job. g.S.PieceSource.reads l.reader job (g.H.Io.seen l.io)) (g.L.Line.serves l.line)
      (g.S.PieceSource.given l.reader) (g.S.PieceSource.asked l.reader) l.input)
      (g.H.Io.seen l.fn.io) (g.H.Io.seen l.io);
}

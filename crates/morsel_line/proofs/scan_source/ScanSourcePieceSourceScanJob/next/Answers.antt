-- A piece more, in the words of the line.
use Rattle.std.proofs.Common.{◌≤◌, subst}
use Rattle.std.specs.Prelude.{OnOk}
use Rattle.std.specs.List.{sum_by}
use Rattle.morsel_read.specs.ScanReads.{PiecesRead, asked_to, sizes_in}
use Rattle.morsel_drive.proofs.TransferLemmas.{either_reading, stays}
use Rattle.morsel_drive.specs.Lines.{GivesNext, ReadsFor}
use Rattle.morsel_line.specs.Jobs.{Job}
use Rattle.morsel_line.specs.ScanJobs.{IsJobPiece, IsJobFault, IsJobEnd}
use Rattle.morsel_line.specs.ScanSources.{DidRead, ReadsJob}
use Rattle.morsel_line.proofs.SourceLemmas.{SoughtFor, reads_for, given_within, gives_next}
use Rattle.morsel_line.proofs.scan_source.ScanSourcePieceSourceScanJob.next.Goals as goal

pub returns-clause-reads : goal.returns-clause-reads
returns-clause-reads g c =
    subst (λ (x : PiecesRead). ReadsFor (DidRead x c.next.new.self (g.H.Io.seen c.args.io.now).sizes) (SoughtFor x c.next.result c.next.new.self (g.H.Io.seen c.args.io.now))
    (g.H.Io.seen c.args.io.now) (g.H.Io.seen c.next.new.io)) c.self.view_is
    (reads_for (g.H.Io.seen c.args.io.now) (g.H.Io.seen c.next.new.io) c.self.inside.reader c.next.new.self c.next.result c.next.ensures.same c.next.ensures.again c.next.ensures.latched
    c.next.ensures.no_fault c.next.ensures.reads)

pub returns-clause-piece : goal.returns-clause-piece
returns-clause-piece g c =
    subst (λ (x : PiecesRead). (job : Job) → ReadsJob x job (g.H.Io.seen c.args.io.now) → GivesNext (IsJobPiece job) (IsJobFault job) (IsJobEnd job)
    (ReadsJob c.next.new.self job (g.H.Io.seen c.next.new.io)) x.given c.next.result c.next.new.self.given (asked_to c.next.new.self)) c.self.view_is
    (λ job reads. gives_next (g.H.Io.seen c.args.io.now) (g.H.Io.seen c.next.new.io) c.self.inside.reader c.next.new.self c.next.result job c.next.ensures.same c.next.ensures.numbered reads
    (c.next.ensures.piece job.scan _ reads.given))

pub returns-clause-within : goal.returns-clause-within
returns-clause-within g c =
    let r = reads_for (g.H.Io.seen c.args.io.now) (g.H.Io.seen c.next.new.io) c.self.inside.reader c.next.new.self c.next.result c.next.ensures.same c.next.ensures.again c.next.ensures.latched
    c.next.ensures.no_fault c.next.ensures.reads in
    subst (λ (x : PiecesRead). OnOk c.next.result (c.next.new.self.given ≤ sum_by (λ n. n) (sizes_in (g.H.Io.seen c.args.io.now).sizes x.sources.files))) c.self.view_is
    (given_within (g.H.Io.seen c.args.io.now) (g.H.Io.seen c.next.new.io) c.self.inside.reader c.next.new.self c.next.result c.next.ensures.same
    (stays _ _ r.reads (either_reading r.reads r.are) r.does).sizes c.next.ensures.suits c.next.ensures.no_fault)

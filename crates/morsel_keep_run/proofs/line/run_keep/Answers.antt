-- The caller's loop over the reader of a scan and a line that keeps.
use Rattle.std.proofs.Common.{ap, subst, sym, ◌∙◌}
use Rattle.morsel_outside.specs.Outside.{Outside}
use Rattle.morsel_read.specs.ScanReads.{PiecesRead, asked_to}
use Rattle.morsel_line.specs.Jobs.{Job}
use Rattle.morsel_line.specs.ScanSources.{ReadsJob}
use Rattle.morsel_scan_units.specs.LaneJobs.{TellsJob}
use Rattle.morsel_keep_run.specs.KeepRuns.{KeepsScan, SweepsKept}
use Rattle.morsel_keep_run.proofs.KeepLemmas.{kept_swept, scan_kept}
use Rattle.morsel_keep_run.proofs.line.run_keep.Goals as goal

pub drain-requires-clause-told : goal.drain-requires-clause-told
drain-requires-clause-told g c job tells = (
  subst (λ (o : Outside). ReadsJob c.new-source.result job o) c.requires.lane.outside_is
      (subst (λ (r : PiecesRead). ReadsJob r job c.args.line.now.lane.outside) (c.requires.lane.reader_is ∙ sym c.new-source.ensures) tells.1),
  tells,
)

pub returns-clause-sweeps : goal.returns-clause-sweeps
returns-clause-sweeps g c =
    let few = c.drain.ensures.sweeps in
    subst (λ (r : PiecesRead). SweepsKept c.args.line.now.lane.scan r c.args.per_row (g.H.Io.seen c.args.io.now) c.args.steps.now c.drain.new.steps) c.new-source.ensures
    (kept_swept c.args.line.now.lane.scan c.new-source.result (g.H.Io.seen c.args.io.now) c.args.per_row c.args.steps.now c.drain.new.steps
    (record {
      rows = few.rows;
      few = few.few;
      small = few.small;
      within = λ job reads serves. few.within job reads (
        serves.0,
        subst (λ (r : PiecesRead). ReadsJob r job c.args.line.now.lane.outside) (c.new-source.ensures ∙ sym c.requires.lane.reader_is)
            (subst (λ (o : Outside). ReadsJob c.new-source.result job o) (sym c.requires.lane.outside_is) reads),
        serves.1 ∙ sym c.requires.lane.stage_is,
      );
    }))

pub returns-clause-stays : goal.returns-clause-stays
returns-clause-stays g c begun was = c.drain.ensures.stays (record c.args.line.now { stage = begun }) was

pub returns-clause-keeps : goal.returns-clause-keeps
returns-clause-keeps g c =
    let d = c.drain.ensures.drains in
    subst (λ (r : PiecesRead). KeepsScan c.args.line.now.lane.scan r (g.H.Io.seen c.args.io.now) c.drain.result (g.H.Io.seen c.drain.new.io)) c.new-source.ensures
    (scan_kept c.args.line.now.lane.scan c.new-source.result c.drain.new.reader (g.H.Io.seen c.args.io.now) (g.H.Io.seen c.drain.new.io) c.drain.result (λ (job : Job). TellsJob c.drain.new.line.lane job)
    (ap asked_to (c.new-source.ensures ∙ c.requires.start)) (ap (λ (r : PiecesRead). r.fault) (c.new-source.ensures ∙ c.requires.start)) c.drain.ensures.given
    (record {
      reads = record {
        reads = d.reads.reads;
        does = d.reads.does;
        are = d.reads.are;
        did_them = d.reads.did_them;
        sought_them = λ job reads serves. d.reads.sought_them job reads (
          serves.0,
          subst (λ (r : PiecesRead). ReadsJob r job c.args.line.now.lane.outside) (c.new-source.ensures ∙ sym c.requires.lane.reader_is)
              (subst (λ (o : Outside). ReadsJob c.new-source.result job o) (sym c.requires.lane.outside_is) reads),
          serves.1 ∙ sym c.requires.lane.stage_is,
        );
      };
      leaves = d.leaves;
      stops = d.stops;
      ends = d.ends;
    }))

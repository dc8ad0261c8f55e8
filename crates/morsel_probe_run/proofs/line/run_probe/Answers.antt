-- The caller's loop over the reader of a scan and its line.
use Rattle.std.proofs.Common.{ap, subst, sym, ◌∙◌}
use Rattle.morsel_outside.specs.Outside.{Outside}
use Rattle.morsel_read.specs.ScanReads.{PiecesRead, asked_to}
use Rattle.morsel_line.specs.ScanSources.{ReadsJob}
use Rattle.morsel_line.proofs.LineLemmas.{sound}
use Rattle.morsel_probe_run.proofs.FoundLemmas.{found_all, found_swept, found_written}
use Rattle.morsel_probe_run.proofs.line.run_probe.Goals as goal

pub drive-requires-clause-told : goal.drive-requires-clause-told
drive-requires-clause-told g c job tells = (
  subst (λ (o : Outside). ReadsJob c.args.source.now job o) c.requires.outside
      (subst (λ (r : PiecesRead). ReadsJob r job c.args.line.now.lane.outside) c.requires.reader tells.1),
  tells,
  sound job tells.1.given.fit,
)

pub returns-clause-sweeps : goal.returns-clause-sweeps
returns-clause-sweeps g c side is =
    let w = c.drive.ensures.sweeps in
    found_swept c.args.line.now.lane.scan c.args.source.now side (g.H.Io.seen c.args.io.now) c.args.steps.now c.drive.new.steps (record {
      rows = w.rows;
      few = w.few;
      small = w.small;
      within = λ job reads serves sound. w.within job reads (
        serves.0,
        subst (λ (r : PiecesRead). ReadsJob r job c.args.line.now.lane.outside) (sym c.requires.reader)
            (subst (λ (o : Outside). ReadsJob c.args.source.now job o) (sym c.requires.outside) reads),
        serves.1 ∙ sym is,
      ) sound;
    })

pub returns-clause-stays : goal.returns-clause-stays
returns-clause-stays g c begun was = c.drive.ensures.stays (record c.args.line.now { stage = begun }) was

pub returns-clause-all : goal.returns-clause-all
returns-clause-all g c side is =
    let d = c.drive.ensures.drives in
    found_all c.args.line.now.lane.scan c.args.source.now c.drive.new.reader side c.args.bound (g.H.Io.seen c.args.io.now) (g.H.Io.seen c.drive.new.io) c.drive.result
    (record {
      actions = d.actions;
      transfers = d.transfers;
      stops = d.stops;
      ends = d.ends;
      fine = d.fine;
      told_them = λ job reads serves sound. d.told_them job reads (
        serves.0,
        subst (λ (r : PiecesRead). ReadsJob r job c.args.line.now.lane.outside) (sym c.requires.reader)
            (subst (λ (o : Outside). ReadsJob c.args.source.now job o) (sym c.requires.outside) reads),
        serves.1 ∙ sym is,
      ) sound;
    })

pub returns-clause-writes : goal.returns-clause-writes
returns-clause-writes g c side is =
    let d = c.drive.ensures.drives in
    found_written c.args.line.now.lane.scan c.args.source.now c.drive.new.reader side c.args.bound (g.H.Io.seen c.args.io.now) (g.H.Io.seen c.drive.new.io) c.drive.result
    (ap asked_to c.requires.start) (ap (λ (r : PiecesRead). r.fault) c.requires.start)
    (record {
      actions = d.actions;
      transfers = d.transfers;
      stops = d.stops;
      ends = d.ends;
      fine = d.fine;
      told_them = λ job reads serves sound. d.told_them job reads (
        serves.0,
        subst (λ (r : PiecesRead). ReadsJob r job c.args.line.now.lane.outside) (sym c.requires.reader)
            (subst (λ (o : Outside). ReadsJob c.args.source.now job o) (sym c.requires.outside) reads),
        serves.1 ∙ sym is,
      ) sound;
    })

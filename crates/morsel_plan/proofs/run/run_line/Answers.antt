-- The caller's loop over the reader of a scan and its line.
use Rattle.std.proofs.Common.{◌+◌, ◌*◌, ◌≤◌, arith, ap, subst, sym, ◌∙◌}
use Rattle.std.specs.List.{sum_by}
use Rattle.morsel_outside.specs.Outside.{Outside}
use Rattle.morsel_read.specs.ScanReads.{PiecesRead, asked_to, sizes_in}
use Rattle.morsel_line.specs.ScanSources.{ReadsJob}
use Rattle.morsel_line.specs.ScanRuns.{WritesScan}
use Rattle.morsel_line.proofs.LineLemmas.{sound}
use Rattle.morsel_line.proofs.RunLemmas.{scan_written}
use Rattle.morsel_plan.proofs.run.run_line.Goals as goal

pub drive-requires-clause-told : goal.drive-requires-clause-told
drive-requires-clause-told g c job tells = (
  subst (λ (o : Outside). ReadsJob c.new-source.result job o) c.requires.outside
      (subst (λ (r : PiecesRead). ReadsJob r job c.args.line.now.lane.outside) (c.requires.reader ∙ sym c.new-source.ensures) tells.1),
  tells,
  sound job tells.1.given.fit,
)

pub returns-clause-sweeps : goal.returns-clause-sweeps
returns-clause-sweeps g c =
    subst (λ (r : PiecesRead). c.drive.new.steps ≤ c.args.steps.now + 1024 * (sum_by (λ n. n) (sizes_in (g.H.Io.seen c.args.io.now).sizes r.sources.files) + 1)) c.new-source.ensures (let few = c.drive.ensures.sweeps.few in omega (arith, few))

pub returns-clause-writes : goal.returns-clause-writes
returns-clause-writes g c =
    let d = c.drive.ensures.drives in
    subst (λ (r : PiecesRead). WritesScan c.args.line.now.lane.scan r c.args.bound (g.H.Io.seen c.args.io.now) c.drive.result (g.H.Io.seen c.drive.new.io)) c.new-source.ensures
    (scan_written c.args.line.now.lane.scan c.new-source.result c.drive.new.reader c.args.bound (g.H.Io.seen c.args.io.now) (g.H.Io.seen c.drive.new.io) c.drive.result
    (ap asked_to (c.new-source.ensures ∙ c.requires.start)) (ap (λ (r : PiecesRead). r.fault) (c.new-source.ensures ∙ c.requires.start))
    (record {
      actions = d.actions;
      transfers = d.transfers;
      stops = d.stops;
      ends = d.ends;
      fine = d.fine;
      told_them = λ job reads serves sound. d.told_them job reads (
        serves.0,
        subst (λ (r : PiecesRead). ReadsJob r job c.args.line.now.lane.outside) (c.new-source.ensures ∙ sym c.requires.reader)
            (subst (λ (o : Outside). ReadsJob c.new-source.result job o) (sym c.requires.outside) reads),
        serves.1 ∙ sym c.requires.scanned,
      ) sound;
    }))

use Rattle.std.proofs.Common.{◌≡◌, ◌∷◌, [], ◌∙◌, ap, refl, sym}
use Rattle.std.specs.Arc.{arc_value}
use Rattle.morsel_load.specs.declared.load.LoadKind.TheVariants.{Parts}
use Rattle.morsel_scan.specs.ScanColumns.{output_fields}
use Rattle.morsel_scan.specs.Scans.{CsvScan}
use Rattle.morsel_line.specs.RowStages.{StageSeen, staged_columns}
use Rattle.morsel_scan_units.specs.LaneJobs.{LaneFor, lane_fields}
use Rattle.morsel_plan.proofs.scan.write_over.Goals as goal

pub run_source-requires-clause-last_fits : goal.run_source-requires-clause-last_fits
run_source-requires-clause-last_fits g c =
    let made = ap (λ node. arc_value node.makers.node) c.new-sink.ensures ∙ c.new.ensures in
    let same : lane_fields c.args.jobs.between.now ≡ lane_fields c.args.jobs.fed.now = ap lane_fields c.requires.jobs.rows in
    let scanned : lane_fields c.args.jobs.fed.now ≡ output_fields c.args.jobs.fed.now.scan.scan = ap (λ (st : StageSeen). staged_columns st (output_fields c.args.jobs.fed.now.scan.scan)) c.requires.jobs.scanned in
    c.initialize.ensures.fits (c.args.jobs.between.now ∷ []) (c.args.jobs.given.now ∷ []) (
      c.args.jobs.between.now,
      c.args.jobs.given.now,
      refl,
      refl,
      (
        made ∙ (c.requires.columns ∙ ap (λ (scan : CsvScan). output_fields scan.scan) (sym c.requires.lane.scan_is) ∙ sym (same ∙ scanned)),
        record {
          takes = ap (λ (lane : LaneFor). lane.kind) c.requires.jobs.rows;
          makes = c.requires.jobs.texts ∙ sym (ap (λ (lane : LaneFor). record lane { kind = Parts }) c.requires.jobs.rows);
          of_scan = refl;
        },
      ),
    )

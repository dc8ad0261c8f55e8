use Rattle.std.proofs.Common.{◌∷◌, [], ◌∙◌, ap, refl, sym}
use Rattle.std.specs.Arc.{arc_value}
use Rattle.morsel_plan.proofs.scan.run_source.Goals as goal

pub run_nodes-requires-clause-first_fits : goal.run_nodes-requires-clause-first_fits
run_nodes-requires-clause-first_fits g c =
    let made = ap (λ node. arc_value node.makers.node) c.new-first.ensures ∙ c.new.ensures in
    c.initialize.ensures.fits (c.args.jobs.fed.now ∷ []) (c.args.jobs.between.now ∷ []) (
      c.args.jobs.fed.now,
      c.args.jobs.between.now,
      refl,
      refl,
      (
        c.requires.jobs.scanned,
        record {
          takes = c.requires.jobs.pieces;
          makes = c.requires.jobs.rows;
          of_scan = c.requires.lane.scan_is ∙ sym made;
        },
      ),
    )

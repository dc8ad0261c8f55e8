use Rattle.std.proofs.Common.{inl, refl, ap}
use Rattle.morsel_scan_units.specs.LaneJobs.{LaneFor}
use Rattle.morsel_group_plan.proofs.GivingFacts.{gives_stage}
use Rattle.morsel_group_plan.proofs.giving.place_of_groups.Goals as goal

pub returns-in_default : goal.returns-in_default
returns-in_default g c = record {
  at = tt;
  pipelines = c.in-Ok.ensures.pipelines;
  units = c.in-Ok.ensures.units;
  rows = tt;
  kept = tt;
  texts = tt;
  first = tt;
  last = tt;
  fits = tt;
  gives = tt;
  refused = inl refl;
}

pub returns-in-Ok-of_rows-clause-gives : goal.returns-in-Ok-of_rows-clause-gives
returns-in-Ok-of_rows-clause-gives g c group ends takes =
    gives_stage c.args.node.now.phase c.end_taking.new.node.phase c.in-Source.field-0 c.in-Some.frame.now c.in-Ok-of_rows.place.given.stage c.in-Source.is c.in-Ok.ensures.keeps c.in-Some.ensures.grouped
    (ap (λ (lane : LaneFor). lane.stage) c.in-Ok-of_rows.ensures.texts) group ends takes

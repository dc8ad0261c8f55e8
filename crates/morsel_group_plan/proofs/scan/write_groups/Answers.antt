use Rattle.std.proofs.Common.{◌≡◌, ◌<◌, ◌∷◌, [], ℕ, inl, refl, sym, subst, ◌∙◌, arith}
use Rattle.morsel_meaning.specs.declared.fault.Fault.TheVariants as faults
use Rattle.morsel_scan_units.specs.LaneJobs.{LaneFor}
use Rattle.morsel_join_plan.specs.JoinLanes.{rows_lane}
use Rattle.morsel_join_plan.specs.JoinRuns.{JoinScan}
use Rattle.morsel_join_plan.proofs.TurnFacts.{home_tokens, lane_itself}
use Rattle.morsel_group_plan.specs.GroupLanes.{GivesGroups, SweepsGiving}
use Rattle.morsel_group_plan.proofs.CourseFacts.{grouped_scan, stopped, swept_given, swept_taken}
use Rattle.morsel_group_plan.proofs.scan.write_groups.Goals as goal

pub take_scan-requires-clause-tokens : goal.take_scan-requires-clause-tokens
take_scan-requires-clause-tokens g c = home_tokens _ _ _ c.in-Ok.ensures.home

pub give_groups-requires-clause-made : goal.give_groups-requires-clause-made
give_groups-requires-clause-made g c = subst (λ (n : ℕ). 0 < n) (sym c.in-Ok-take_scan.ensures.taken.keeps.leaves.sinks) c.requires.made

pub give_groups-requires-clause-tokens : goal.give_groups-requires-clause-tokens
give_groups-requires-clause-tokens g c = home_tokens _ _ _ c.in-Ok-ready_to_give.ensures.home

pub give_groups-requires-clause-rows : goal.give_groups-requires-clause-rows
give_groups-requires-clause-rows g c = lane_itself c.in-Ok-ready_to_give.ready.lanes.rows _ _ _ _ c.in-Ok-ready_to_give.ensures.rows

pub give_groups-requires-clause-takes : goal.give_groups-requires-clause-takes
give_groups-requires-clause-takes g c = (c.args.group.rules, _, c.in-Ok-take_scan.ensures.taken.takes, c.in-Ok-ready_to_give.ensures.columns ∙ c.requires.output)

pub returns-in-Err-clause-sweeps : goal.returns-in-Err-clause-sweeps
returns-in-Err-clause-sweeps g c = swept_taken (record { scan = c.args.scan.node; reader = c.args.scan.reader }) (g.H.Io.seen c.args.io.now) c.args.steps.now c.take_scan.new.steps c.in-Err.ensures.sweeps

pub returns-in-Err-clause-groups : goal.returns-in-Err-clause-groups
returns-in-Err-clause-groups g c = stopped (record { scan = c.args.scan.node; reader = c.args.scan.reader }) c.args.group.rules _ _ _ c.in-Err.ensures.stops

pub returns-clause-sweeps : goal.returns-clause-sweeps
returns-clause-sweeps g c =
    let scan : JoinScan = record { scan = c.args.scan.node; reader = c.args.scan.reader } in
    let has = c.in-Ok-take_scan.ensures.taken in
    let ends = (rows_lane scan.scan scan.reader (g.H.Io.seen c.args.io.now) has.tokens, has.given) ∷ [] in
    swept_given scan (g.H.Io.seen c.args.io.now) has.tokens has.given c.args.steps.now c.take_scan.new.steps c.give_groups.new.steps c.in-Ok-take_scan.ensures.sweeps
    (subst (λ (lane : LaneFor). SweepsGiving (record { scan = lane.scan; reader = lane.reader }) ends lane.outside c.take_scan.new.steps c.give_groups.new.steps) c.in-Ok-ready_to_give.ensures.rows (c.give_groups.ensures.sweeps c.args.group.rules ends has.takes))

pub returns-clause-groups : goal.returns-clause-groups
returns-clause-groups g c =
    let scan : JoinScan = record { scan = c.args.scan.node; reader = c.args.scan.reader } in
    let has = c.in-Ok-take_scan.ensures.taken in
    let ends = (rows_lane scan.scan scan.reader (g.H.Io.seen c.args.io.now) has.tokens, has.given) ∷ [] in
    grouped_scan _ scan c.args.group.rules (g.H.Io.seen c.args.io.now) _ c.give_groups.result (g.H.Io.seen c.give_groups.new.io) has
    (subst (λ (lane : LaneFor). GivesGroups (record { scan = lane.scan; reader = lane.reader }) c.args.group.rules ends lane.outside (g.H.Io.seen c.take_scan.new.io) c.give_groups.result (g.H.Io.seen c.give_groups.new.io)) c.in-Ok-ready_to_give.ensures.rows
    (c.give_groups.ensures.gives c.args.group.rules ends has.takes))

pub returns-in_default-clause-sweeps : goal.returns-in_default-clause-sweeps
returns-in_default-clause-sweeps g c = swept_taken (record { scan = c.args.scan.node; reader = c.args.scan.reader }) (g.H.Io.seen c.args.io.now) c.args.steps.now c.args.steps.now (omega arith)

pub returns-in_default-clause-groups : goal.returns-in_default-clause-groups
returns-in_default-clause-groups g c = stopped (record { scan = c.args.scan.node; reader = c.args.scan.reader }) c.args.group.rules _ _ faults.OutOfMemory (inl (refl, refl))

pub returns-in_default-ready_to_give-clause-sweeps : goal.returns-in_default-ready_to_give-clause-sweeps
returns-in_default-ready_to_give-clause-sweeps g c = swept_taken (record { scan = c.args.scan.node; reader = c.args.scan.reader }) (g.H.Io.seen c.args.io.now) c.args.steps.now c.args.steps.now (omega arith)

pub returns-in_default-ready_to_give-clause-groups : goal.returns-in_default-ready_to_give-clause-groups
returns-in_default-ready_to_give-clause-groups g c = stopped (record { scan = c.args.scan.node; reader = c.args.scan.reader }) c.args.group.rules _ _ faults.OutOfMemory (inl (refl, refl))

pub take_scan-requires-clause-suits : goal.take_scan-requires-clause-suits
take_scan-requires-clause-suits g c = c.requires.suits

pub take_scan-requires-clause-start : goal.take_scan-requires-clause-start
take_scan-requires-clause-start g c = c.requires.start

pub take_scan-requires-clause-columns : goal.take_scan-requires-clause-columns
take_scan-requires-clause-columns g c = c.requires.columns

pub give_groups-requires-clause-taken : goal.give_groups-requires-clause-taken
give_groups-requires-clause-taken g c = c.in-Ok-ready_to_give.ensures.taken

pub give_groups-requires-clause-kept : goal.give_groups-requires-clause-kept
give_groups-requires-clause-kept g c = c.in-Ok-ready_to_give.ensures.kept

pub give_groups-requires-clause-texts : goal.give_groups-requires-clause-texts
give_groups-requires-clause-texts g c = c.in-Ok-ready_to_give.ensures.texts

pub give_groups-requires-clause-none_written : goal.give_groups-requires-clause-none_written
give_groups-requires-clause-none_written g c = c.requires.none_written

pub give_groups-requires-clause-ready : goal.give_groups-requires-clause-ready
give_groups-requires-clause-ready g c = c.in-Ok-take_scan.ensures.pipelines

pub give_groups-requires-clause-idle : goal.give_groups-requires-clause-idle
give_groups-requires-clause-idle g c = c.in-Ok-take_scan.ensures.idle

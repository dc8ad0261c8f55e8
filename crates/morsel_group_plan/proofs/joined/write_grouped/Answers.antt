use Rattle.std.proofs.Common.{◌≡◌, ◌<◌, ℕ, inl, refl, sym, ap, subst, ◌∙◌}
use Rattle.std.specs.Arc.{arc_value}
use Rattle.morsel_join.specs.declared.build_side.Build.{Build}
use Rattle.morsel_join.specs.BuildSides.{kept_side}
use Rattle.morsel_scan_units.specs.LaneJobs.{LaneFor}
use Rattle.morsel_join_phases.specs.JoinPhases.{build_of}
use Rattle.morsel_join_plan.specs.JoinLanes.{rows_lane}
use Rattle.morsel_join_plan.specs.JoinRuns.{JoinScan}
use Rattle.morsel_join_plan.proofs.PortFacts.{all_some, for_each, some_here}
use Rattle.morsel_join_plan.proofs.TurnFacts.{home_tokens, lane_itself}
use Rattle.morsel_group_plan.specs.GroupLanes.{GivesGroups, SweepsGiving}
use Rattle.morsel_group_plan.specs.GroupRuns.{GroupsRows, JoinGives}
use Rattle.morsel_group_plan.specs.JoinedLanes.{SweepsGrouped, joined_ends}
use Rattle.morsel_group_plan.proofs.JoinedCourse.{grouped_swept, grouped_taken, rest_grouped, rest_stopped, taken_unswept}
use Rattle.morsel_group_plan.proofs.joined.write_grouped.Goals as goal

pub take_joined-requires-clause-tokens : goal.take_joined-requires-clause-tokens
take_joined-requires-clause-tokens g c = home_tokens _ _ _ c.in-Ok-new_board.ensures.home

pub take_joined-requires-clause-build : goal.take_joined-requires-clause-build
take_joined-requires-clause-build g c = c.in-Ok.ensures.build

pub take_joined-requires-clause-asks : goal.take_joined-requires-clause-asks
take_joined-requires-clause-asks g c = rw (sym c.in-Some.ensures.value) at c.requires.asks

pub take_joined-requires-clause-ready : goal.take_joined-requires-clause-ready
take_joined-requires-clause-ready g c = rw (sym c.in-Some.ensures.value) at c.requires.ready

pub take_joined-requires-clause-idle : goal.take_joined-requires-clause-idle
take_joined-requires-clause-idle g c = rw (sym c.in-Some.ensures.value) at c.requires.idle

pub take_joined-requires-clause-right : goal.take_joined-requires-clause-right
take_joined-requires-clause-right g c = (let right = rw (sym c.in-Some.ensures.value) at c.requires.right in right (arc_value c.in-Ok.build) c.in-Ok.ensures.build)

pub take_joined-requires-clause-grouped : goal.take_joined-requires-clause-grouped
take_joined-requires-clause-grouped g c = (let grouped = rw (sym c.in-Some.ensures.value) at c.requires.grouped in grouped (arc_value c.in-Ok.build) c.in-Ok.ensures.build)

pub give_groups-requires-clause-made : goal.give_groups-requires-clause-made
give_groups-requires-clause-made g c = subst (λ (n : ℕ). 0 < n) (sym c.in-Ok-take_joined.ensures.taken.keeps.leaves.sinks) c.requires.made

pub give_groups-requires-clause-tokens : goal.give_groups-requires-clause-tokens
give_groups-requires-clause-tokens g c = home_tokens _ _ _ c.in-Ok-ready_to_give.ensures.home

pub give_groups-requires-clause-rows : goal.give_groups-requires-clause-rows
give_groups-requires-clause-rows g c = lane_itself c.in-Ok-ready_to_give.ready.lanes.rows _ _ _ _ c.in-Ok-ready_to_give.ensures.rows

pub give_groups-requires-clause-takes : goal.give_groups-requires-clause-takes
give_groups-requires-clause-takes g c = (c.args.group.rules, _, c.in-Ok-take_joined.ensures.taken.takes, c.in-Ok-ready_to_give.ensures.columns ∙ c.requires.output)

pub returns-in-Err-clause-sweeps : goal.returns-in-Err-clause-sweeps
returns-in-Err-clause-sweeps g c =
    let asked : JoinScan = record { scan = c.args.asked.node; reader = c.args.asked.reader } in
    let opened = g.H.Io.seen c.args.io.now in
    some_here _ c.args.join.now c.in-Some.join c.in-Some.ensures.value
    (for_each (λ (b : Build). SweepsGrouped asked (kept_side b) opened c.args.steps.now c.take_joined.new.steps) (build_of c.in-Some.join.phase) (arc_value c.in-Ok.build) c.in-Ok.ensures.build
    (grouped_taken asked (kept_side (arc_value c.in-Ok.build)) opened c.args.steps.now c.take_joined.new.steps c.in-Err.ensures.sweeps))

pub returns-in-Err-clause-groups : goal.returns-in-Err-clause-groups
returns-in-Err-clause-groups g c =
    let asked : JoinScan = record { scan = c.args.asked.node; reader = c.args.asked.reader } in
    some_here _ c.args.join.now c.in-Some.join c.in-Some.ensures.value (λ build is. rest_stopped asked (kept_side build) c.args.group.rules _ _ _ c.in-Err.ensures.stops)

pub returns-clause-sweeps : goal.returns-clause-sweeps
returns-clause-sweeps g c =
    let asked : JoinScan = record { scan = c.args.asked.node; reader = c.args.asked.reader } in
    let side = kept_side (arc_value c.in-Ok.build) in
    let opened = g.H.Io.seen c.args.io.now in
    let has = c.in-Ok-take_joined.ensures.taken in
    let ends = joined_ends side (rows_lane asked.scan asked.reader opened has.tokens) has.given in
    some_here _ c.args.join.now c.in-Some.join c.in-Some.ensures.value
    (for_each (λ (b : Build). SweepsGrouped asked (kept_side b) opened c.args.steps.now c.give_groups.new.steps) (build_of c.in-Some.join.phase) (arc_value c.in-Ok.build) c.in-Ok.ensures.build
    (grouped_swept _ asked side c.args.group.rules opened _ c.args.steps.now c.take_joined.new.steps c.give_groups.new.steps has c.in-Ok-take_joined.ensures.sweeps
    (subst (λ (lane : LaneFor). SweepsGiving (record { scan = lane.scan; reader = lane.reader }) ends lane.outside c.take_joined.new.steps c.give_groups.new.steps) c.in-Ok-ready_to_give.ensures.rows (c.give_groups.ensures.sweeps c.args.group.rules ends has.takes))))

pub returns-clause-groups : goal.returns-clause-groups
returns-clause-groups g c =
    let asked : JoinScan = record { scan = c.args.asked.node; reader = c.args.asked.reader } in
    let side = kept_side (arc_value c.in-Ok.build) in
    let opened = g.H.Io.seen c.args.io.now in
    let between = g.H.Io.seen c.take_joined.new.io in
    let after = g.H.Io.seen c.give_groups.new.io in
    let has = c.in-Ok-take_joined.ensures.taken in
    let ends = joined_ends side (rows_lane asked.scan asked.reader opened has.tokens) has.given in
    some_here _ c.args.join.now c.in-Some.join c.in-Some.ensures.value
    (for_each (λ (b : Build). GroupsRows (JoinGives asked (kept_side b)) asked c.args.group.rules opened c.give_groups.result after) (build_of c.in-Some.join.phase) (arc_value c.in-Ok.build) c.in-Ok.ensures.build
    (rest_grouped asked side c.args.group.rules opened between _ c.give_groups.result after has
    (subst (λ (lane : LaneFor). GivesGroups (record { scan = lane.scan; reader = lane.reader }) c.args.group.rules ends lane.outside between c.give_groups.result after) c.in-Ok-ready_to_give.ensures.rows (c.give_groups.ensures.gives c.args.group.rules ends has.takes))))

pub returns-in_default-kept_rows-clause-sweeps : goal.returns-in_default-kept_rows-clause-sweeps
returns-in_default-kept_rows-clause-sweeps g c =
    let asked : JoinScan = record { scan = c.args.asked.node; reader = c.args.asked.reader } in
    let opened = g.H.Io.seen c.args.io.now in
    all_some _ c.args.join.now (λ join build is. grouped_taken asked (kept_side build) opened c.args.steps.now c.args.steps.now (taken_unswept asked (kept_side build) opened c.args.steps.now))

pub returns-in_default-kept_rows-clause-groups : goal.returns-in_default-kept_rows-clause-groups
returns-in_default-kept_rows-clause-groups g c = all_some _ c.args.join.now (λ join build is. record { course = inl (refl, refl) })

pub returns-in_default-new_board-clause-sweeps : goal.returns-in_default-new_board-clause-sweeps
returns-in_default-new_board-clause-sweeps g c =
    let asked : JoinScan = record { scan = c.args.asked.node; reader = c.args.asked.reader } in
    let opened = g.H.Io.seen c.args.io.now in
    all_some _ c.args.join.now (λ join build is. grouped_taken asked (kept_side build) opened c.args.steps.now c.args.steps.now (taken_unswept asked (kept_side build) opened c.args.steps.now))

pub returns-in_default-new_board-clause-groups : goal.returns-in_default-new_board-clause-groups
returns-in_default-new_board-clause-groups g c = all_some _ c.args.join.now (λ join build is. record { course = inl (refl, refl) })

pub returns-in_default-ready_to_give-clause-sweeps : goal.returns-in_default-ready_to_give-clause-sweeps
returns-in_default-ready_to_give-clause-sweeps g c =
    let asked : JoinScan = record { scan = c.args.asked.node; reader = c.args.asked.reader } in
    let opened = g.H.Io.seen c.args.io.now in
    all_some _ c.args.join.now (λ join build is. grouped_taken asked (kept_side build) opened c.args.steps.now c.args.steps.now (taken_unswept asked (kept_side build) opened c.args.steps.now))

pub returns-in_default-ready_to_give-clause-groups : goal.returns-in_default-ready_to_give-clause-groups
returns-in_default-ready_to_give-clause-groups g c = all_some _ c.args.join.now (λ join build is. record { course = inl (refl, refl) })

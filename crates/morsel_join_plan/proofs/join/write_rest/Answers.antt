use Rattle.std.proofs.Common.{◌≡◌, Ok, Err, true, false, inl, refl, sym, ap, ◌∙◌}
use Rattle.std.specs.Arc.{arc_value}
use Rattle.morsel_join.specs.declared.build_side.Build.{Build}
use Rattle.morsel_join.specs.BuildSides.{kept_side}
use Rattle.morsel_scan_units.specs.LaneJobs.{LaneFor}
use Rattle.morsel_join_phases.specs.JoinPhases.{build_of, has_alone}
use Rattle.morsel_join_plan.specs.JoinRuns.{JoinScan}
use Rattle.morsel_join_plan.specs.JoinLanes.{SweepsRest, WritesRest}
use Rattle.morsel_join_plan.proofs.CourseLemmas.{ends_alone, ends_none, found_made, rest_found, rest_stopped, wants_there}
use Rattle.morsel_join_plan.proofs.PortFacts.{all_some, for_each, some_here}
use Rattle.morsel_join_plan.proofs.SweepLemmas.{rest_swept, rest_swept_found, rest_unswept}
use Rattle.morsel_join_plan.proofs.TurnFacts.{all_there, home_tokens, just_there, lane_itself, swept_alone, wrote_alone}
use Rattle.morsel_join_plan.proofs.join.write_rest.Goals as goal

pub look_up_side-requires-clause-tokens : goal.look_up_side-requires-clause-tokens
look_up_side-requires-clause-tokens g c = home_tokens _ _ _ c.in-Ok-new_board.ensures.home

pub look_up_side-requires-clause-asks : goal.look_up_side-requires-clause-asks
look_up_side-requires-clause-asks g c = rw (sym c.in-Some.ensures.value) at c.requires.asks

pub look_up_side-requires-clause-ready : goal.look_up_side-requires-clause-ready
look_up_side-requires-clause-ready g c = rw (sym c.in-Some.ensures.value) at c.requires.ready

pub look_up_side-requires-clause-idle : goal.look_up_side-requires-clause-idle
look_up_side-requires-clause-idle g c = rw (sym c.in-Some.ensures.value) at c.requires.idle

pub write_alone-alone-requires-clause-made : goal.write_alone-alone-requires-clause-made
write_alone-alone-requires-clause-made g c =
    found_made (record { scan = c.args.asked.node; reader = c.args.asked.reader }) (kept_side (arc_value c.in-Ok.build)) c.args.run.bound _ _ c.in-Ok-look_up_side.looked.rows c.in-Ok-look_up_side.ensures.writes c.requires.made

pub write_alone-alone-requires-clause-tokens : goal.write_alone-alone-requires-clause-tokens
write_alone-alone-requires-clause-tokens g c = home_tokens _ _ _ (c.in-Ok-new_board-2.ensures.home ∙ sym (ap (λ (lane : LaneFor). lane.tokens) c.in-Ok-alone_lanes.ensures.rows))

pub write_alone-alone-requires-clause-rows : goal.write_alone-alone-requires-clause-rows
write_alone-alone-requires-clause-rows g c = lane_itself c.in-Ok-alone_lanes.lanes.rows _ _ _ _ c.in-Ok-alone_lanes.ensures.rows

pub write_alone-alone-requires-clause-has : goal.write_alone-alone-requires-clause-has
write_alone-alone-requires-clause-has g c = (_, just_there c.in-Ok-alone_lanes.lanes.rows _ _ _ _ c.in-Ok-alone_lanes.ensures.rows _ (arc_value c.in-Ok.build) _ c.in-Ok-look_up_side.ensures.has)

pub write_alone-alone-requires-clause-all : goal.write_alone-alone-requires-clause-all
write_alone-alone-requires-clause-all g c = all_there c.in-Ok-alone_lanes.lanes.rows _ _ _ _ c.in-Ok-alone_lanes.ensures.rows c.in-Ok-look_up_side.looked.given c.in-Ok-look_up_side.ensures.all

pub returns-in-Err-clause-sweeps : goal.returns-in-Err-clause-sweeps
returns-in-Err-clause-sweeps g c =
    let asked : JoinScan = record { scan = c.args.asked.node; reader = c.args.asked.reader } in
    some_here _ c.args.join.now c.in-Some.join c.in-Some.ensures.value
    (for_each (λ (b : Build). SweepsRest asked (kept_side b) (g.H.Io.seen c.args.io.now) c.args.steps.now c.look_up_side.new.steps) (build_of c.in-Some.join.phase) (arc_value c.in-Ok.build) c.in-Ok.ensures.build
    (rest_swept_found asked (kept_side (arc_value c.in-Ok.build)) (g.H.Io.seen c.args.io.now) c.args.steps.now c.look_up_side.new.steps c.in-Err.ensures.sweeps))

pub returns-in-Err-clause-writes : goal.returns-in-Err-clause-writes
returns-in-Err-clause-writes g c =
    let asked : JoinScan = record { scan = c.args.asked.node; reader = c.args.asked.reader } in
    let out = Err c.in-Err.fault in
    some_here _ c.args.join.now c.in-Some.join c.in-Some.ensures.value
    (for_each (λ (b : Build). WritesRest asked (kept_side b) c.args.run.bound (g.H.Io.seen c.args.io.now) out (g.H.Io.seen c.look_up_side.new.io)) (build_of c.in-Some.join.phase) (arc_value c.in-Ok.build) c.in-Ok.ensures.build
    (rest_stopped asked (kept_side (arc_value c.in-Ok.build)) c.args.run.bound (g.H.Io.seen c.args.io.now) (g.H.Io.seen c.look_up_side.new.io) c.in-Err.fault c.in-Err.ensures.writes))

pub returns-then-gives_alone-clause-sweeps : goal.returns-then-gives_alone-clause-sweeps
returns-then-gives_alone-clause-sweeps g c =
    let asked : JoinScan = record { scan = c.args.asked.node; reader = c.args.asked.reader } in
    let side = kept_side (arc_value c.in-Ok.build) in
    some_here _ c.args.join.now c.in-Some.join c.in-Some.ensures.value
    (for_each (λ (b : Build). SweepsRest asked (kept_side b) (g.H.Io.seen c.args.io.now) c.args.steps.now c.write_alone-alone.new.steps) (build_of c.in-Some.join.phase) (arc_value c.in-Ok.build) c.in-Ok.ensures.build
    (rest_swept asked side (g.H.Io.seen c.args.io.now) c.args.steps.now c.look_up_side.new.steps c.write_alone-alone.new.steps c.in-Ok-look_up_side.ensures.sweeps
    (swept_alone c.in-Ok-alone_lanes.lanes.rows _ _ _ _ c.in-Ok-alone_lanes.ensures.rows side c.look_up_side.new.steps c.write_alone-alone.new.steps c.write_alone-alone.ensures.sweeps)))

pub returns-then-gives_alone-clause-writes : goal.returns-then-gives_alone-clause-writes
returns-then-gives_alone-clause-writes g c =
    let asked : JoinScan = record { scan = c.args.asked.node; reader = c.args.asked.reader } in
    let side = kept_side (arc_value c.in-Ok.build) in
    let opened = g.H.Io.seen c.args.io.now in
    let between = g.H.Io.seen c.look_up_side.new.io in
    let after = g.H.Io.seen c.write_alone-alone.new.io in
    let right = rw (sym c.in-Some.ensures.value) at c.requires.right in
    let has : has_alone side.rules ≡ true = sym (ap (λ (b : Build). has_alone b.rules) c.deref.ensures) ∙ sym c.gives_alone.ensures ∙ c.if-gives_alone.true in
    some_here _ c.args.join.now c.in-Some.join c.in-Some.ensures.value
    (for_each (λ (b : Build). WritesRest asked (kept_side b) c.args.run.bound opened c.with_found.result after) (build_of c.in-Some.join.phase) (arc_value c.in-Ok.build) c.in-Ok.ensures.build
    (rest_found asked side c.args.run.bound opened between after c.in-Ok-look_up_side.looked.rows c.with_found.result c.in-Ok-look_up_side.ensures.writes
    (ends_alone asked side opened c.in-Ok-look_up_side.looked.rows between after c.write_alone-alone.result c.with_found.result (wants_there side (right (arc_value c.in-Ok.build) c.in-Ok.ensures.build) ∙ has)
    (wrote_alone c.in-Ok-alone_lanes.lanes.rows _ _ _ _ c.in-Ok-alone_lanes.ensures.rows side between c.write_alone-alone.result after c.write_alone-alone.ensures.writes) c.with_found.ensures)))

pub returns-clause-sweeps : goal.returns-clause-sweeps
returns-clause-sweeps g c =
    let asked : JoinScan = record { scan = c.args.asked.node; reader = c.args.asked.reader } in
    some_here _ c.args.join.now c.in-Some.join c.in-Some.ensures.value
    (for_each (λ (b : Build). SweepsRest asked (kept_side b) (g.H.Io.seen c.args.io.now) c.args.steps.now c.look_up_side.new.steps) (build_of c.in-Some.join.phase) (arc_value c.in-Ok.build) c.in-Ok.ensures.build
    (rest_swept_found asked (kept_side (arc_value c.in-Ok.build)) (g.H.Io.seen c.args.io.now) c.args.steps.now c.look_up_side.new.steps c.in-Ok-look_up_side.ensures.sweeps))

pub returns-clause-writes : goal.returns-clause-writes
returns-clause-writes g c =
    let asked : JoinScan = record { scan = c.args.asked.node; reader = c.args.asked.reader } in
    let side = kept_side (arc_value c.in-Ok.build) in
    let opened = g.H.Io.seen c.args.io.now in
    let after = g.H.Io.seen c.look_up_side.new.io in
    let rows = c.in-Ok-look_up_side.looked.rows in
    let right = rw (sym c.in-Some.ensures.value) at c.requires.right in
    let none : has_alone side.rules ≡ false = sym (ap (λ (b : Build). has_alone b.rules) c.deref.ensures) ∙ sym c.gives_alone.ensures ∙ c.if-gives_alone.false in
    some_here _ c.args.join.now c.in-Some.join c.in-Some.ensures.value
    (for_each (λ (b : Build). WritesRest asked (kept_side b) c.args.run.bound opened (Ok rows) after) (build_of c.in-Some.join.phase) (arc_value c.in-Ok.build) c.in-Ok.ensures.build
    (rest_found asked side c.args.run.bound opened after after rows (Ok rows) c.in-Ok-look_up_side.ensures.writes
    (ends_none asked side opened rows after (wants_there side (right (arc_value c.in-Ok.build) c.in-Ok.ensures.build) ∙ none))))

pub returns-in_default-kept_rows-clause-sweeps : goal.returns-in_default-kept_rows-clause-sweeps
returns-in_default-kept_rows-clause-sweeps g c = all_some _ c.args.join.now (λ join build is. rest_unswept (record { scan = c.args.asked.node; reader = c.args.asked.reader }) (kept_side build) (g.H.Io.seen c.args.io.now) c.args.steps.now)

pub returns-in_default-kept_rows-clause-writes : goal.returns-in_default-kept_rows-clause-writes
returns-in_default-kept_rows-clause-writes g c = all_some _ c.args.join.now (λ join build is. inl (refl, refl))

pub returns-in_default-new_board-clause-sweeps : goal.returns-in_default-new_board-clause-sweeps
returns-in_default-new_board-clause-sweeps g c = all_some _ c.args.join.now (λ join build is. rest_unswept (record { scan = c.args.asked.node; reader = c.args.asked.reader }) (kept_side build) (g.H.Io.seen c.args.io.now) c.args.steps.now)

pub returns-in_default-new_board-clause-writes : goal.returns-in_default-new_board-clause-writes
returns-in_default-new_board-clause-writes g c = all_some _ c.args.join.now (λ join build is. inl (refl, refl))

pub returns-in_default-new_board-2-clause-sweeps : goal.returns-in_default-new_board-2-clause-sweeps
returns-in_default-new_board-2-clause-sweeps g c = all_some _ c.args.join.now (λ join build is. rest_unswept (record { scan = c.args.asked.node; reader = c.args.asked.reader }) (kept_side build) (g.H.Io.seen c.args.io.now) c.args.steps.now)

pub returns-in_default-new_board-2-clause-writes : goal.returns-in_default-new_board-2-clause-writes
returns-in_default-new_board-2-clause-writes g c = all_some _ c.args.join.now (λ join build is. inl (refl, refl))

pub returns-in_default-alone_lanes-clause-sweeps : goal.returns-in_default-alone_lanes-clause-sweeps
returns-in_default-alone_lanes-clause-sweeps g c = all_some _ c.args.join.now (λ join build is. rest_unswept (record { scan = c.args.asked.node; reader = c.args.asked.reader }) (kept_side build) (g.H.Io.seen c.args.io.now) c.args.steps.now)

pub returns-in_default-alone_lanes-clause-writes : goal.returns-in_default-alone_lanes-clause-writes
returns-in_default-alone_lanes-clause-writes g c = all_some _ c.args.join.now (λ join build is. inl (refl, refl))

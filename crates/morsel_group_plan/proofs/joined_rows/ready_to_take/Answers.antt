use Rattle.std.proofs.Common.{refl, sym, ap, ◌∙◌}
use Rattle.std.specs.Arc.{arc_value}
use Rattle.morsel_join.specs.BuildSides.{kept_side}
use Rattle.morsel_scan_units.specs.LaneJobs.{LaneFor}
use Rattle.morsel_group_plan.specs.JoinedLanes.{alone_lane}
use Rattle.morsel_group_plan.proofs.LoneFacts.{found_cuts}
use Rattle.morsel_group_plan.proofs.joined_rows.ready_to_take.Goals as goal

pub new_taking-requires-clause-cuts : goal.new_taking-requires-clause-cuts
new_taking-requires-clause-cuts g c =
    found_cuts (kept_side (arc_value c.args.build.now)) c.in_ok-lanes.lanes.rows c.in_ok-lanes.lanes.found _ (ap (λ (lane : LaneFor). lane.kind) c.in_ok-lanes.ensures.rows) c.in_ok-lanes.ensures.found c.requires.columns

pub returns-clause-alone : goal.returns-clause-alone
returns-clause-alone g c = c.in_ok-alone.ensures.lane ∙ ap (alone_lane (kept_side (arc_value c.args.build.now))) (sym c.in_ok-lanes.ensures.rows)

pub returns-clause-none : goal.returns-clause-none
returns-clause-none g c = c.in_ok-taking.ensures.none

pub returns-clause-takes : goal.returns-clause-takes
returns-clause-takes g c = c.in_ok-taking.ensures.takes c.in_ok-lanes.lanes.given

pub returns-clause-new : goal.returns-clause-new
returns-clause-new g c = c.in_ok-taking.ensures.new

pub returns-clause-rows : goal.returns-clause-rows
returns-clause-rows g c = c.in_ok-lanes.ensures.rows

pub returns-clause-fed : goal.returns-clause-fed
returns-clause-fed g c = c.in_ok-lanes.ensures.fed

pub returns-clause-found : goal.returns-clause-found
returns-clause-found g c = c.in_ok-lanes.ensures.found

pub returns-clause-first : goal.returns-clause-first
returns-clause-first g c = c.in_ok-lanes.ensures.first

pub returns-clause-middle_recv : goal.returns-clause-middle_recv
returns-clause-middle_recv g c = c.in_ok-lanes.ensures.middle_recv

pub returns-clause-middle_send : goal.returns-clause-middle_send
returns-clause-middle_send g c = c.in_ok-lanes.ensures.middle_send

pub returns-clause-last : goal.returns-clause-last
returns-clause-last g c = c.in_ok-lanes.ensures.last

pub returns-clause-source : goal.returns-clause-source
returns-clause-source g c = c.in_ok-source.ensures.ok

pub returns-clause-reader : goal.returns-clause-reader
returns-clause-reader g c = refl

pub returns-clause-within : goal.returns-clause-within
returns-clause-within g c = rw (sym c.deref.ensures) c.in_ok-per_row.ensures.within

pub returns-clause-small : goal.returns-clause-small
returns-clause-small g c = c.in_ok-per_row.ensures.small

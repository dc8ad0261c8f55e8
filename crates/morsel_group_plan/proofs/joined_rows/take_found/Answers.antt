use Rattle.std.proofs.Common.{inl, refl, sym, ap, ◌∙◌}
use Rattle.std.specs.Arc.{arc_value}
use Rattle.morsel_meaning.specs.declared.fault.Fault.TheVariants as faults
use Rattle.morsel_scan.specs.ScanColumns.{output_fields}
use Rattle.morsel_scan_units.specs.LaneJobs.{LaneFor}
use Rattle.morsel_join_plan.proofs.CourseLemmas.{stops_behind, was_kept}
use Rattle.morsel_join_plan.proofs.NodeFacts.{stays_same}
use Rattle.morsel_join_plan.proofs.PortFacts.{carries_rows}
use Rattle.morsel_join_plan.proofs.TurnFacts.{finding_node, finds_there, has_looked_up}
use Rattle.morsel_group_plan.proofs.JoinedCourse.{kept_unswept, taken_stopped}
use Rattle.morsel_group_plan.proofs.LoneFacts.{some_gives, takes_first}
use Rattle.morsel_group_plan.proofs.joined_rows.take_found.Goals as goal

pub look_up_in-requires : goal.look_up_in-requires
look_up_in-requires g c = record {
  rows = λ columns is. let asks = rw (sym c.in-Some.ensures.value) at c.requires.asks in carries_rows _ _ _ _ c.args.lanes.now.rows columns c.requires.rows (asks columns is);
}

pub take_found_by-requires-clause-finds : goal.take_found_by-requires-clause-finds
take_found_by-requires-clause-finds g c =
    let ready = rw (sym c.in-Some.ensures.value) at c.requires.ready in
    let idle = rw (sym c.in-Some.ensures.value) at c.requires.idle in
    finding_node _ _ _ (c.in-Ok.ensures.none.0 ∙ ready) refl refl (c.in-Ok.ensures.none.1 ∙ idle) c.in-Ok.ensures.looks.0

pub take_found_by-requires-clause-fits : goal.take_found_by-requires-clause-fits
take_found_by-requires-clause-fits g c =
    let asks = rw (sym c.in-Some.ensures.value) at c.requires.asks in
    let build = rw (sym c.in-Some.ensures.value) at c.requires.build in (
      c.args.lanes.now.rows,
      c.args.lanes.now.rows,
      c.args.lanes.now.found,
      c.requires.middle_recv,
      c.requires.middle_send,
      finds_there _ (arc_value c.args.build.now) c.args.lanes.now.rows c.args.lanes.now.found (output_fields (arc_value c.args.source).scan) c.in-Ok.ensures.looks.0 (c.in-Ok.ensures.same.3 ∙ build) c.in-Ok.ensures.looks.1
          (λ columns is. asks columns (sym c.in-Ok.ensures.same.1 ∙ is)) (carries_rows _ _ _ _ c.args.lanes.now.rows (output_fields (arc_value c.args.source).scan) c.requires.rows refl) (ap (λ (lane : LaneFor). lane.stage) c.requires.rows) c.requires.found,
    )

pub take_found_by-requires-clause-fails : goal.take_found_by-requires-clause-fails
take_found_by-requires-clause-fails g c fault is = is

pub take_found_by-requires-clause-found_tokens : goal.take_found_by-requires-clause-found_tokens
take_found_by-requires-clause-found_tokens g c = ap (λ (lane : LaneFor). lane.tokens) c.requires.found

pub take_found_by-requires-clause-suits : goal.take_found_by-requires-clause-suits
take_found_by-requires-clause-suits g c = c.requires.suits

pub take_found_by-requires-clause-start : goal.take_found_by-requires-clause-start
take_found_by-requires-clause-start g c = c.requires.start

pub take_found_by-requires-clause-tokens : goal.take_found_by-requires-clause-tokens
take_found_by-requires-clause-tokens g c = c.requires.tokens

pub take_found_by-requires-clause-rows : goal.take_found_by-requires-clause-rows
take_found_by-requires-clause-rows g c = c.requires.rows

pub take_found_by-requires-clause-fed : goal.take_found_by-requires-clause-fed
take_found_by-requires-clause-fed g c = c.requires.fed

pub take_found_by-requires-clause-first : goal.take_found_by-requires-clause-first
take_found_by-requires-clause-first g c = c.requires.first

pub take_found_by-requires-clause-middle_recv : goal.take_found_by-requires-clause-middle_recv
take_found_by-requires-clause-middle_recv g c = c.requires.middle_recv

pub take_found_by-requires-clause-middle_send : goal.take_found_by-requires-clause-middle_send
take_found_by-requires-clause-middle_send g c = c.requires.middle_send

pub take_found_by-requires-clause-last : goal.take_found_by-requires-clause-last
take_found_by-requires-clause-last g c = c.requires.last

pub take_found_by-requires-clause-some_node : goal.take_found_by-requires-clause-some_node
take_found_by-requires-clause-some_node g c = c.requires.some_node

pub take_found_by-requires-clause-takes : goal.take_found_by-requires-clause-takes
take_found_by-requires-clause-takes g c = c.requires.takes

pub take_found_by-requires-clause-at : goal.take_found_by-requires-clause-at
take_found_by-requires-clause-at g c = c.requires.at

pub take_found_by-requires-clause-new : goal.take_found_by-requires-clause-new
take_found_by-requires-clause-new g c = c.requires.new

pub returns-in-Err-clause-sweeps : goal.returns-in-Err-clause-sweeps
returns-in-Err-clause-sweeps g c = c.in-Err.ensures.sweeps

pub returns-in-Err-clause-stops : goal.returns-in-Err-clause-stops
returns-in-Err-clause-stops g c = taken_stopped (record { scan = arc_value c.args.source; reader = c.args.reader }) (g.H.Io.seen c.args.io.now) (g.H.Io.seen c.take_found_by.new.io) c.in-Err.fault c.in-Err.ensures.keeps

pub returns-clause-sweeps : goal.returns-clause-sweeps
returns-clause-sweeps g c = c.in-Ok-take_found_by.ensures.sweeps

pub returns-clause-takes : goal.returns-clause-takes
returns-clause-takes g c group none =
    some_gives _ _ _ c.args.node.now c.requires.some_node none c.in-Ok-take_found_by.ensures.group_stays
    (λ node new stays. takes_first node.phase c.in-Ok-take_found_by.taken.0.keeps.phase group c.args.lanes.now.found c.in-Ok-take_found_by.taken.1 new stays c.in-Ok-all_taken.ensures.at c.in-Ok-all_taken.ensures.ends)

pub returns-clause-has : goal.returns-clause-has
returns-clause-has g c =
    let build = rw (sym c.in-Some.ensures.value) at c.requires.build in
    let stays = c.in-Ok-take_found_by.ensures.finding_stays c.look_up_in.new.self (stays_same c.look_up_in.new.self) in
    has_looked_up _ _ (arc_value c.args.build.now) c.args.lanes.now.rows _ refl c.in-Ok.ensures.looks.0 (c.in-Ok.ensures.same.3 ∙ build) c.in-Ok.ensures.looks.1 stays.1

pub returns-clause-ready : goal.returns-clause-ready
returns-clause-ready g c =
    let ready = rw (sym c.in-Some.ensures.value) at c.requires.ready in
    let stays = c.in-Ok-take_found_by.ensures.finding_stays c.look_up_in.new.self (stays_same c.look_up_in.new.self) in
    stays.0 c.args.run.line.pipelines (c.in-Ok.ensures.none.0 ∙ ready)

pub returns-clause-pipelines : goal.returns-clause-pipelines
returns-clause-pipelines g c = c.in-Ok-take_found_by.ensures.pipelines

pub returns-clause-idle : goal.returns-clause-idle
returns-clause-idle g c = c.in-Ok-all_taken.ensures.idle

pub returns-clause-keeps : goal.returns-clause-keeps
returns-clause-keeps g c = was_kept (record { scan = arc_value c.args.source; reader = c.args.reader }) (g.H.Io.seen c.args.io.now) (g.H.Io.seen c.take_found_by.new.io) c.in-Ok-take_found_by.taken.1 c.in-Ok-take_found_by.ensures.keeps

pub returns-in_default-look_up_in-clause-sweeps : goal.returns-in_default-look_up_in-clause-sweeps
returns-in_default-look_up_in-clause-sweeps g c = kept_unswept (arc_value c.args.source) c.args.reader c.args.per_row (g.H.Io.seen c.args.io.now) c.args.steps.now

pub returns-in_default-look_up_in-clause-stops : goal.returns-in_default-look_up_in-clause-stops
returns-in_default-look_up_in-clause-stops g c = inl (refl, refl)

pub returns-in_default-all_taken-clause-sweeps : goal.returns-in_default-all_taken-clause-sweeps
returns-in_default-all_taken-clause-sweeps g c = c.in-Ok-take_found_by.ensures.sweeps

pub returns-in_default-all_taken-clause-stops : goal.returns-in_default-all_taken-clause-stops
returns-in_default-all_taken-clause-stops g c =
    stops_behind (record { scan = arc_value c.args.source; reader = c.args.reader }) (g.H.Io.seen c.args.io.now) (g.H.Io.seen c.take_found_by.new.io) c.in-Ok-take_found_by.taken.1 faults.OutOfMemory c.in-Ok-take_found_by.ensures.keeps refl

use Rattle.std.proofs.Common.{◌≡◌, Some, sym, ap, subst, ◌∙◌}
use Rattle.morsel_join.specs.BuildSides.{kept_side}
use Rattle.morsel_scan_units.specs.LaneJobs.{LaneFor}
use Rattle.morsel_join_plan.proofs.PhaseFacts.{some_same}
use Rattle.morsel_join_plan.proofs.TurnFacts.{gives_there}
use Rattle.morsel_group_units.specs.GroupAsks.{GroupRulesSeen}
use Rattle.morsel_group_plan.proofs.LoneFacts.{alone_cuts, keeps_none, kept_for, took_last}
use Rattle.morsel_group_plan.proofs.lone.take_lone_rows.Goals as goal

pub take_from-requires : goal.take_from-requires
take_from-requires g c =
    let lane = c.requires.lane in
    record { cuts = λ rules is. alone_cuts (kept_side lane.0) lane.2 c.args.alone.now rules.columns (ap (λ (l : LaneFor). l.kind) lane.4) lane.6 (lane.7 rules is) }

pub all_kept-requires : goal.all_kept-requires
all_kept-requires g c =
    let lane = c.requires.lane in
    let had = sym c.in_ok-take_from.ensures.rules ∙ c.in_ok-empty.ensures.rules in record {
      for_job = (
        c.args.alone.now,
        c.in_ok-giver.ensures.gives_for lane.2 lane.2 c.args.alone.now
            (gives_there c.args.join.now.phase lane.0 lane.2 c.args.alone.now lane.2.tokens lane.1 lane.3 (ap (λ (l : LaneFor). l.kind) lane.4) (ap (λ (l : LaneFor). l.stage) lane.4) lane.5 lane.6),
        keeps_none _ _ _ c.args.alone.now c.in_ok-empty.ensures.none
            (alone_cuts (kept_side lane.0) lane.2 c.args.alone.now _ (ap (λ (l : LaneFor). l.kind) lane.4) lane.6 (lane.7 _ had)),
      );
    }

pub keep-requires-clause-rules : goal.keep-requires-clause-rules
keep-requires-clause-rules g c rules is = c.in_ok-keeper.ensures.later ∙ some_same _ _ (sym c.in_ok-empty.ensures.rules ∙ is)

pub keep-requires-clause-suits : goal.keep-requires-clause-suits
keep-requires-clause-suits g c job is =
    let lane = c.requires.lane in
    let had = sym c.in_ok-take_from.ensures.rules ∙ c.in_ok-empty.ensures.rules in
    let gives = c.in_ok-giver.ensures.gives_for lane.2 lane.2 c.args.alone.now
    (gives_there c.args.join.now.phase lane.0 lane.2 c.args.alone.now lane.2.tokens lane.1 lane.3 (ap (λ (l : LaneFor). l.kind) lane.4) (ap (λ (l : LaneFor). l.stage) lane.4) lane.5 lane.6) in
    let keeps = keeps_none _ _ _ c.args.alone.now c.in_ok-empty.ensures.none
    (alone_cuts (kept_side lane.0) lane.2 c.args.alone.now _ (ap (λ (l : LaneFor). l.kind) lane.4) lane.6 (lane.7 _ had)) in
    kept_for _ _ _ _ c.args.alone.now job c.in_ok-take_from.ensures.takes.1 (c.in_ok-keeper.ensures.keeps c.args.alone.now gives keeps) is

pub returns-clause-took : goal.returns-clause-took
returns-clause-took g c =
    took_last _ _ _ c.args.alone.now c.in-Some.to 1 c.in_ok-take_from.ensures.takes c.in_ok-take_from.ensures.rules c.in_ok-take_from.ensures.ends c.keep.ensures.same c.keep.ensures.stays c.in-Some.ensures.to c.if-to-ne1.false

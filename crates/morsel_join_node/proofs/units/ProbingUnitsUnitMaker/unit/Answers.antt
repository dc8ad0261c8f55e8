use Rattle.std.proofs.Common.{rules, ◌≡◌, ◌∙◌, ap, refl, sym, subst}
use Rattle.std.specs.Arc.{arc_value}
use Rattle.morsel_join.specs.declared.build_side.Build.{Build}
use Rattle.morsel_join.specs.BuildSides.{IsBuild, kept_side}
use Rattle.morsel_lane_pipe.specs.Tasks.{TaskSeen}
use Rattle.morsel_join_units.specs.ProbeMakers.{FindsFor, stretch_left}
use Rattle.morsel_join_units.specs.declared.probe_maker.ProbeMaker.{ProbeMaker}
use Rattle.morsel_join_node.proofs.MadeLemmas.{probing_made, seen_of}
use Rattle.morsel_join_node.proofs.UnitLemmas.{did_none, looked_none}
use Rattle.morsel_join_node.specs.declared.join_unit.JoinUnit.{JoinUnit}
use Rattle.morsel_join_node.proofs.units.ProbingUnitsUnitMaker.unit.Given.{Over}
use Rattle.morsel_join_node.proofs.units.ProbingUnitsUnitMaker.unit.Goals as goal

-- the task of a unit
module _ (g : Over) where
  abbrev Unit : Type 0
  Unit = JoinUnit g.row.L.Denot g.row.J.Denot g.row.L-Board.Denot g.row.L-Group.Denot g.row.L-Token.Denot g.row.L-Sender.Denot g.row.L-Receiver.Denot g.row.L-Sender-Receipt.Denot g.row.L-Receiver-Receipt.Denot

pub new-requires : goal.new-requires
new-requires g c =
    let cloned : arc_value c.in_ok-build.build ≡ arc_value c.args.self.now.build = search rules in
    record { built = subst IsBuild (sym cloned) c.requires.fits.0; some = c.requires.fits.1 }

pub new-requires-2 : goal.new-requires-2
new-requires-2 g c =
    let cloned : arc_value c.in_ok-build.build ≡ arc_value c.args.self.now.build = search rules in
    let made = c.in_ok-maker.ensures in
    let maker = c.in_ok-maker.maker in
    let can = c.requires.fits.2 in
    let same : arc_value maker.build ≡ arc_value c.args.self.now.build = made.build ∙ cloned in
    let job = g.L.Receiver.LaneReceiver.job c.args.ends.0 in
    let sent = g.L.Sender.LaneSender.job c.args.ends.1 in
    record {
      home = can.same_home;
      joins = (
        made.maker,
        subst (λ (b : Build). g.J.RowsJob.gives_rows job b.asked) (sym same) can.joined.0,
        subst (λ (b : Build). g.J.RowsJob.finds (kept_side b) job sent) (sym same) can.joined.1,
        looked_none g.J.LoadJob.suits job maker.looked.items made.none.1,
      );
      makes_for = subst (λ probed. FindsFor g.J.LoadJob.suits g.J.RowsJob.finds (kept_side (arc_value maker.build)) sent probed) (sym made.none.0) tt;
      fresh = (can.none_taken, can.none_sent, ap stretch_left made.none.0, did_none maker (arc_value c.in_ok-build.build) made.build made.none.0 made.none.2);
    }

pub returns-clause-made : goal.returns-clause-made
returns-clause-made g c =
    let cloned : arc_value c.in_ok-build.build ≡ arc_value c.args.self.now.build = search rules in
    probing_made (λ (unit : Unit g). unit.task) _ _ _ _ _ _ _ _ _ _ _ _ _ _ _ _ c.new-3.result c.in_ok-unit.unit _ _ _ _ refl c.new-3.ensures (λ id same of. c.in_ok-unit.ensures.can_step id same of) (ap (λ (s : TaskSeen). seen_of s.home s.from s.to) c.in_ok-unit.ensures.seen)
    (ap (λ (maker : ProbeMaker). arc_value maker.build) c.in_ok-unit.ensures.maker.0 ∙ c.in_ok-maker.ensures.build ∙ cloned, c.in_ok-unit.ensures.maker.1)

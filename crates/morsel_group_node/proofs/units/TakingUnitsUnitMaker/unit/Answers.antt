use Rattle.std.proofs.Common.{rules, ◌≡◌, ap, refl, ◌∙◌}
use Rattle.std.specs.Arc.{arc_value}
use Rattle.morsel_lane_pipe.specs.Tasks.{TaskSeen}
use Rattle.morsel_group_units.specs.GroupKeepers.{GroupKeeperSeen}
use Rattle.morsel_group_node.proofs.MadeLemmas.{seen_of, taking_made}
use Rattle.morsel_group_node.specs.declared.group_unit.GroupUnit.{GroupUnit}
use Rattle.morsel_group_node.proofs.units.TakingUnitsUnitMaker.unit.Given.{Over}
use Rattle.morsel_group_node.proofs.units.TakingUnitsUnitMaker.unit.Goals as goal

-- the task of a unit
module _ (g : Over) where
  abbrev Unit : Type 0
  Unit = GroupUnit g.row.L.Denot g.row.J.Denot g.row.L-Board.Denot g.row.L-Group.Denot g.row.L-Token.Denot g.row.L-Sender.Denot g.row.L-Receiver.Denot g.row.L-Sender-Receipt.Denot g.row.L-Receiver-Receipt.Denot

pub returns-clause-made : goal.returns-clause-made
returns-clause-made g c =
    let asked : c.deref.result.now ≡ arc_value c.args.self.now.rules = search rules in
    let same = c.in_ok-unit.ensures.same in
    taking_made (λ (unit : Unit g). unit.task) _ _ _ _ _ _ _ _ _ _ _ c.new-3.result c.in_ok-unit.unit _ _ _ _ refl c.new-3.ensures (λ id home of. c.in_ok-unit.ensures.can_step id home of) (ap (λ (s : TaskSeen). seen_of s.home s.from s.to) c.in_ok-unit.ensures.seen)
    (same.1, ap (λ (keeper : GroupKeeperSeen). keeper.rules) (same.0 ∙ c.in_ok-keeper.ensures.none) ∙ asked)

use Rattle.std.proofs.Common.{refl, ap}
use Rattle.morsel_group_units.specs.declared.giver.GroupGiver.{GroupGiver}
use Rattle.morsel_lane_pipe.specs.Tasks.{TaskSeen}
use Rattle.morsel_group_node.proofs.MadeLemmas.{giving_made, seen_of}
use Rattle.morsel_group_node.specs.declared.group_unit.GroupUnit.{GroupUnit}
use Rattle.morsel_group_node.proofs.units.giving_unit.Given.{Over}
use Rattle.morsel_group_node.proofs.units.giving_unit.Goals as goal

-- the task of a unit
module _ (g : Over) where
  abbrev Unit : Type 0
  Unit = GroupUnit g.row.L.Denot g.row.J.Denot g.row.L-Board.Denot g.row.L-Group.Denot g.row.L-Token.Denot g.row.L-Sender.Denot g.row.L-Receiver.Denot g.row.L-Sender-Receipt.Denot g.row.L-Receiver-Receipt.Denot

pub returns-clause-made : goal.returns-clause-made
returns-clause-made g c =
    giving_made (λ (unit : Unit g). unit.task) _ _ _ _ _ _ _ _ _ _ _ c.new-2.result c.in_ok-unit.unit _ _ _ _ refl c.new-2.ensures (λ id same of. c.in_ok-unit.ensures.can_step id same) (ap (λ (s : TaskSeen). seen_of s.home s.from s.to) c.in_ok-unit.ensures.seen)
    (ap (λ (giver : GroupGiver). giver.frame) c.in_ok-unit.ensures.giver)

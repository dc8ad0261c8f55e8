use Rattle.std.proofs.Common.{◌∷◌, [], All, List, subst}
use Rattle.morsel_lane_pipe.specs.declared.receipts.PipeOut.{PipeOut}
use Rattle.morsel_phase.specs.Stages.{HasNoFault, HasOut}
use Rattle.morsel_phase.specs.declared.node_stage.NodeStage.{NodeStage}
use Rattle.morsel_phase.proofs.StageLemmas.{all_others, first_back, first_owed, second_back, second_owed, third_back, third_fault}
use Rattle.morsel_phase.proofs.line_stage.LineStageStageBoard.give_back.Given.{Over}
use Rattle.morsel_phase.proofs.line_stage.LineStageStageBoard.give_back.Goals as goal

module _ (g : Over) where
  abbrev FirstOut : NodeStage g.row.A.Denot g.row.J.Denot → List g.row.A-Unit.Denot → Type 0
  FirstOut stage units = HasOut (g.A.ComputeNode.seen stage.node).units (g.A.ComputeNode.is_unit stage.node) g.A.ComputeNode.unit_fails (g.A.ComputeNode.fails stage.begun.value (stage.job.value ∷ [])) units

  abbrev LastOut : NodeStage g.row.Z.Denot g.row.J.Denot → List g.row.Z-Unit.Denot → Type 0
  LastOut stage units = HasOut (g.Z.ComputeNode.seen stage.node).units (g.Z.ComputeNode.is_unit stage.node) g.Z.ComputeNode.unit_fails (g.Z.ComputeNode.fails stage.begun.value (stage.job.value ∷ [])) units

  abbrev Pipes : List g.row.P.Denot → Type 0
  Pipes tasks = All (HasNoFault g.P.Task.gives) tasks

pub give_back-requires : goal.give_back-requires
give_back-requires g c = record { owed = first_owed g.A.Unit.Task.gives g.Z.Unit.Task.gives g.P.Task.gives (FirstOut g c.args.self.now.first) c.requires.owed.0 c.requires.owed.1 c.requires.owed.2 c.args.out c.in-First.out c.in-First.is c.requires.owed.3.0 c.requires.owed.4 }

pub give_back-requires-in-Second : goal.give_back-requires-in-Second
give_back-requires-in-Second g c = record { owed = second_owed g.A.Unit.Task.gives g.Z.Unit.Task.gives g.P.Task.gives (LastOut g c.args.self.now.last) c.requires.owed.0 c.requires.owed.1 c.requires.owed.2 c.args.out c.in-Second.out c.in-Second.is c.requires.owed.3.1 c.requires.owed.4 }

pub returns-in-First-clause-owed : goal.returns-in-First-clause-owed
returns-in-First-clause-owed g c before after task owed gave =
    first_back g.A.Unit.Task.gives g.Z.Unit.Task.gives g.P.Task.gives (FirstOut g c.args.self.now.first) (LastOut g c.args.self.now.last) (Pipes g) (FirstOut g c.give_back.new.self) before after task c.args.out c.in-First.out c.in-First.is owed.0 owed.1 owed.2 gave c.give_back.ensures.owed

pub returns-in-Second-clause-owed : goal.returns-in-Second-clause-owed
returns-in-Second-clause-owed g c before after task owed gave =
    second_back g.A.Unit.Task.gives g.Z.Unit.Task.gives g.P.Task.gives (FirstOut g c.args.self.now.first) (LastOut g c.args.self.now.last) (Pipes g) (LastOut g c.give_back-in-Second.new.self) before after task c.args.out c.in-Second.out c.in-Second.is owed.0 owed.1 owed.2 gave c.give_back-in-Second.ensures.owed

pub returns-after-out-2-clause-owed : goal.returns-after-out-2-clause-owed
returns-after-out-2-clause-owed g c before after task owed gave =
    third_back g.A.Unit.Task.gives g.Z.Unit.Task.gives g.P.Task.gives (FirstOut g c.args.self.now.first) (LastOut g c.args.self.now.last) (Pipes g) (Pipes g) before after task c.args.out c.in-Third.out c.in-Third.is owed.0 owed.1 owed.2 gave
    (λ front behind unit all given. all_others (HasNoFault g.P.Task.gives) front behind unit all)

pub unreachable-requires : goal.unreachable-requires
unreachable-requires g c =
    third_fault g.A.Unit.Task.gives g.Z.Unit.Task.gives g.P.Task.gives (HasNoFault g.P.Task.gives) c.requires.owed.0 c.requires.owed.1 c.requires.owed.2 c.args.out c.in-Third.out c.in-Third.is c.requires.owed.3.2 c.requires.owed.4
    (λ unit never gave. never c.in-Failed.field-0 (subst (λ (out : PipeOut g.row.R.Denot). g.P.Task.gives unit out) c.in-Failed.is gave))

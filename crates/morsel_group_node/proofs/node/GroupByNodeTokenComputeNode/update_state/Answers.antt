use Rattle.std.proofs.Common.{◌≡◌, ◌∷◌, [], ◌∙◌, ap, rules, refl, subst}
use Rattle.morsel_group_phases.specs.declared.places.GroupPorts.{GroupPorts}
use Rattle.morsel_group_phases.specs.GroupPhases.{IsFaultOfGroups, KeepsGroup, group_at, has_given_groups}
use Rattle.morsel_group_phases.specs.GroupTables.{group_answers, group_moved}
use Rattle.morsel_group_node.proofs.PortLemmas.{one_recv, one_send, same_node}
use Rattle.morsel_group_node.proofs.BackLemmas.{moved_fault}
use Rattle.morsel_group_node.proofs.node.GroupByNodeTokenComputeNode.update_state.Goals as goal

pub told_by-told-requires : goal.told_by-told-requires
told_by-told-requires g c = record { one_recv = c.requires.recv ∙ one_recv (group_at c.args.self.now.phase); one_send = c.requires.send ∙ one_send (group_at c.args.self.now.phase) }

pub tell-requires : goal.tell-requires
tell-requires g c = record { one_recv = c.requires.recv ∙ one_recv (group_at c.args.self.now.phase); one_send = c.requires.send ∙ one_send (group_at c.args.self.now.phase) }

pub returns-clause-moved : goal.returns-clause-moved
returns-clause-moved g c =
    let old : c.replace-phase.result ≡ c.args.self.now.phase = search rules in
    let answered = c.answer.ensures ∙ ap group_answers c.at.ensures in record {
      moves = record {
        told = c.told_by-told.result;
        recv_is = c.told_by-told.ensures.recv;
        send_is = c.told_by-told.ensures.send;
        moved = subst (λ phase. group_at c.in-Ok.moved ≡ group_moved (has_given_groups phase) c.told_by-told.result.taken c.told_by-told.result.sent (group_at phase)) old c.in-Ok.ensures.at;
        recv_now_is = c.tell.ensures.recv ∙ ap (λ (ports : GroupPorts). ports.taken ∷ []) answered;
        send_now_is = c.tell.ensures.send ∙ ap (λ (ports : GroupPorts). ports.sent ∷ []) answered;
      };
      keeps = subst (λ phase. KeepsGroup phase c.in-Ok.moved) old c.in-Ok.ensures.keeps;
    }

pub returns-clause-same : goal.returns-clause-same
returns-clause-same g c = same_node _ _ _ (group_at c.args.self.now.phase) (group_at c.in-Ok.moved)

pub returns-in-Err-clause-fault : goal.returns-in-Err-clause-fault
returns-in-Err-clause-fault g c =
    let old : c.replace-phase.result ≡ c.args.self.now.phase = search rules in
    moved_fault (λ phase. IsFaultOfGroups g.J.RowsJob.yields phase c.in-Err.fault) [] c.replace-phase.result c.args.self.now.phase c.in-Err.fault refl old c.in-Err.ensures.refused

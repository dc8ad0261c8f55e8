use Rattle.std.proofs.Common.{◌≡◌, ◌∷◌, [], ◌∙◌, ap, rules, subst}
use Rattle.morsel_join_phases.specs.declared.places.JoinPorts.{JoinPorts}
use Rattle.morsel_join_phases.specs.JoinPhases.{KeepsJoin, alone_in, at_of, given_in}
use Rattle.morsel_join_phases.specs.JoinTables.{answers_at, moved_at}
use Rattle.morsel_join_node.proofs.PortLemmas.{one_send, same_node, two_recv}
use Rattle.morsel_join_node.proofs.node.EquiJoinNodeTokenComputeNode.update_state.Goals as goal

pub told_by-told-requires : goal.told_by-told-requires
told_by-told-requires g c = record { two = c.requires.recv ∙ two_recv (at_of c.args.self.now.phase); one = c.requires.send ∙ one_send (at_of c.args.self.now.phase) }

pub tell-requires : goal.tell-requires
tell-requires g c = record { two = c.requires.recv ∙ two_recv (at_of c.args.self.now.phase); one = c.requires.send ∙ one_send (at_of c.args.self.now.phase) }

pub returns-clause-moved : goal.returns-clause-moved
returns-clause-moved g c =
    let old : c.replace-phase.result ≡ c.args.self.now.phase = search rules in
    let answered = c.answer.ensures ∙ ap (answers_at c.told_by-told.result) c.at.ensures in record {
      moves = record {
        told = c.told_by-told.result;
        recv_is = c.told_by-told.ensures.recv;
        send_is = c.told_by-told.ensures.send;
        moved = subst (λ phase. at_of c.in_ok-moved.moved ≡ moved_at (alone_in phase) (given_in phase) c.told_by-told.result (at_of phase)) old c.in_ok-moved.ensures.at;
        recv_now_is = c.tell.ensures.recv ∙ ap (λ (ports : JoinPorts). ports.kept ∷ ports.asked ∷ []) answered;
        send_now_is = c.tell.ensures.send ∙ ap (λ (ports : JoinPorts). ports.sent ∷ []) answered;
      };
      keeps = subst (λ phase. KeepsJoin phase c.in_ok-moved.moved) old c.in_ok-moved.ensures.keeps;
    }

pub returns-clause-same : goal.returns-clause-same
returns-clause-same g c = same_node _ _ _ _ _ (at_of c.args.self.now.phase) (at_of c.in_ok-moved.moved)

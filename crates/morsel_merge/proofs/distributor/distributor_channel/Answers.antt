use Rattle.std.proofs.Common.{map, sym, ap, subst, ◌∙◌, arith}
use Rattle.morsel_merge.specs.Spread.{AreSent}
use Rattle.morsel_merge.proofs.AskLemmas.{map_empty}
use Rattle.morsel_merge.proofs.distributor.distributor_channel.Goals as goal

pub invariant_of-sender-clause-sent : goal.invariant_of-sender-clause-sent
invariant_of-sender-clause-sent g c =
    subst (λ log. AreSent (map g.M.Sender.LaneSender.sent c.in_ok-lanes.lanes.items) log) (sym c.in_ok-log.ensures) (λ i. map_empty g.M.Sender.LaneSender.sent c.in_ok-lanes.lanes.items (λ k d within. (c.in_ok-lanes.ensures.senders k d within).3) i)

pub invariant_of-sender-clause-rooms : goal.invariant_of-sender-clause-rooms
invariant_of-sender-clause-rooms g c = λ k d within. omega (arith, c.in_ok-lanes.ensures.rooms k d within, c.requires.bufsize.1)

pub invariant_of-sender-clause-homes : goal.invariant_of-sender-clause-homes
invariant_of-sender-clause-homes g c = λ k d within. (c.in_ok-lanes.ensures.senders k d within).0 ∙ ap (λ id. id.lane_table) (sym c.in_ok-lanes.ensures.same_board) ∙ ap (λ b. (g.M.Board.Board.id b).lane_table) (sym c.of-2.ensures)

pub invariant_of-sender-clause-jobs : goal.invariant_of-sender-clause-jobs
invariant_of-sender-clause-jobs g c = λ k d within. (c.in_ok-lanes.ensures.senders k d within).1 ∙ sym c.of.ensures

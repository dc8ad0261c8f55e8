use Rattle.std.proofs.Common.{rules, sym, subst, arith}
use Rattle.morsel_prims.proofs.MarkLemmas.{lane_within, found, held_within}
use Rattle.morsel_prims.specs.Marks.{ArePlainLanes}
use Rattle.morsel_prims.proofs.plain_queues.PlainQueues.held.Goals as goal

pub index-lane-requires : goal.index-lane-requires
index-lane-requires g c = let small = lane_within _ _ _ _ _ c.args.self.now.kept c.look.ensures.list c.requires.place in search rules

pub invariant_of-self : goal.invariant_of-self
invariant_of-self g c = record { kept = subst (λ rows. ArePlainLanes rows c.args.self.now.lanes.items) (sym c.look.ensures.same.1) c.args.self.now.kept }

pub returns-then-held-room-clause-held : goal.returns-then-held-room-clause-held
returns-then-held-room-clause-held g c =
    let small = lane_within _ _ _ _ _ c.args.self.now.kept c.look.ensures.list c.requires.place in let there = found _ _ _ small c.index-lane.ensures in
    (c.index-lane.result.now, there, held_within _ _ _ _ _ _ _ c.args.self.now.kept c.look.ensures.list c.requires.place there c.requires.unclosed c.requires.room)

pub returns-clause-held : goal.returns-clause-held
returns-clause-held g c =
    let small = lane_within _ _ _ _ _ c.args.self.now.kept c.look.ensures.list c.requires.place in let there = found _ _ _ small c.index-lane.ensures in let len = c.len-held.ensures.len in
    (c.index-lane.result.now, there, omega arith)

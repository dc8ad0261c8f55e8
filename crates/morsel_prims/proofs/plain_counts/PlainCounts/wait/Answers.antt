use Rattle.std.proofs.Common.{ap, refl, arith}
use Rattle.circular_buffer.proofs.Places.{slice_get-set_same}
use Rattle.morsel_prims.proofs.MarkLemmas.{found}
use Rattle.morsel_prims.proofs.CountLemmas.{only_group}
use Rattle.morsel_prims.specs.Counts.{group_waits_of}
use Rattle.morsel_prims.proofs.plain_counts.PlainCounts.wait.Goals as goal

pub returns-clause-tokens : goal.returns-clause-tokens
returns-clause-tokens c _ =
    let small = c.args.self.now.kept.within _ _ _ c.look.ensures.list c.requires.group in let there = found _ _ _ small c.index_mut-group.ensures.value in
    let more = c.if-group-eq0.false in (_, slice_get-set_same c.args.self.now.groups.items c.args.index _ small, omega arith)

pub returns-clause-waits : goal.returns-clause-waits
returns-clause-waits c _ = let small = c.args.self.now.kept.within _ _ _ c.look.ensures.list c.requires.group in ap group_waits_of (slice_get-set_same c.args.self.now.groups.items c.args.index _ small)

pub returns-clause-others : goal.returns-clause-others
returns-clause-others c = only_group c.args.self.now.groups.items c.args.index _

pub returns-clause-same_count : goal.returns-clause-same_count
returns-clause-same_count c =
    let small = c.args.self.now.kept.within _ _ _ c.look.ensures.list c.requires.group in let there = found _ _ _ small c.index_mut-group.ensures.value in
    (c.index_mut-group.result.now, _, there, slice_get-set_same c.args.self.now.groups.items c.args.index _ small, refl)

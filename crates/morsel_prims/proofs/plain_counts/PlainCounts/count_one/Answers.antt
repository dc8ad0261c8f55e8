use Rattle.std.proofs.Common.{rules, ap, ◌∙◌, ◌≡◌, [], ◌∷◌, ◌++◌, Some, ◌+◌}
use Rattle.circular_buffer.proofs.Places.{slice_get-set_same}
use Rattle.morsel_prims.proofs.MarkLemmas.{found}
use Rattle.morsel_prims.proofs.CountLemmas.{one_token_more, only_group}
use Rattle.morsel_prims.specs.declared.plain_counts.GroupMark.TheVariants.{Token}
use Rattle.morsel_prims.proofs.plain_counts.PlainCounts.count_one.Goals as goal

pub invariant_of-self-2 : goal.invariant_of-self-2
invariant_of-self-2 c =
    let small = c.args.self.now.kept.within _ _ _ c.look.ensures.list c.requires.group in let there = found _ _ _ small c.index_mut-group.ensures.value in
    record { kept = one_token_more _ _ _ _ c.index_mut-group.result.now _ (c.begin.ensures.rows ∙ ap (λ rs. rs ++ (Token c.args.index ∷ []) ∷ []) c.look.ensures.same.1) c.args.self.now.kept small there (search rules) }

pub returns-clause-counted : goal.returns-clause-counted
returns-clause-counted c =
    let small = c.args.self.now.kept.within _ _ _ c.look.ensures.list c.requires.group in let there = found _ _ _ small c.index_mut-group.ensures.value in
    let more : c.in-Some.count ≡ c.index_mut-group.result.now.count + 1 = search rules in
    (c.index_mut-group.result.now, there, slice_get-set_same c.args.self.now.groups.items c.args.index _ small ∙ ap (λ n. Some (record { count = n; waits = c.index_mut-group.result.now.waits })) more)

pub returns-clause-others : goal.returns-clause-others
returns-clause-others c = only_group c.args.self.now.groups.items c.args.index _

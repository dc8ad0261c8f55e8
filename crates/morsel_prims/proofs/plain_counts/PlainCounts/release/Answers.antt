use Rattle.std.proofs.Common.{rules, ap, sym, ◌∙◌, subst, ◌≡◌, set, arith, [], ◌∷◌, ◌++◌, ◌-◌, None}
use mathlib.Core.Option.{some}
use lib.ListN.{get_elem?}
use Rattle.circular_buffer.proofs.Places.{slice_get-set_same}
use Rattle.morsel_prims.proofs.MarkLemmas.{found}
use Rattle.morsel_prims.proofs.CountLemmas.{one_token_less, counts_token, waits-last, waits-more, left-last, left-more, only_group}
use Rattle.morsel_prims.specs.Counts.{group_of, group_waits_of}
use Rattle.morsel_prims.specs.Rows.{place_of_row}
use Rattle.morsel_prims.specs.declared.plain_counts.GroupMark.TheVariants.{Token, Released}
use Rattle.morsel_prims.proofs.plain_counts.PlainCounts.release.Goals as goal

pub index_mut-group-requires : goal.index_mut-group-requires
index_mut-group-requires c = let small = c.args.self.now.kept.within _ _ _ c.write.ensures.same (ap group_of c.requires.token) in search rules

pub overflow_sub-group : goal.overflow_sub-group
overflow_sub-group c = let small = c.args.self.now.kept.within _ _ _ c.write.ensures.same (ap group_of c.requires.token) in let there = found _ _ _ small c.index_mut-group.ensures.value in let at : get_elem? c.args.self.now.roll.seat.me.0.rows (place_of_row c.args.mine.now.badge.views) ≡ some (Token c.args.index ∷ []) = c.write.ensures.same ∙ ap some c.requires.token in counts_token _ _ _ _ _ c.args.self.now.kept at there

pub invariant_of-self : goal.invariant_of-self
invariant_of-self c =
    let small = c.args.self.now.kept.within _ _ _ c.write.ensures.same (ap group_of c.requires.token) in let there = found _ _ _ small c.index_mut-group.ensures.value in let at : get_elem? c.args.self.now.roll.seat.me.0.rows (place_of_row c.args.mine.now.badge.views) ≡ some (Token c.args.index ∷ []) = c.write.ensures.same ∙ ap some c.requires.token in
    let some_left = counts_token _ _ _ _ _ c.args.self.now.kept at there in
    record { kept = one_token_less _ _ _ _ _ _ c.index_mut-group.result.now _ c.write.ensures.rows c.requires.token c.args.self.now.kept at small there (omega arith) }

pub returns-then-group-gt0-clause-counted : goal.returns-then-group-gt0-clause-counted
returns-then-group-gt0-clause-counted c =
    let small = c.args.self.now.kept.within _ _ _ c.write.ensures.same (ap group_of c.requires.token) in let there = found _ _ _ small c.index_mut-group.ensures.value in let at : get_elem? c.args.self.now.roll.seat.me.0.rows (place_of_row c.args.mine.now.badge.views) ≡ some (Token c.args.index ∷ []) = c.write.ensures.same ∙ ap some c.requires.token in
    let some_left = counts_token _ _ _ _ _ c.args.self.now.kept at there in let more = c.if-group-gt0.true in
    (c.index_mut-group.result.now, _, there, slice_get-set_same c.args.self.now.groups.items c.args.index _ small, omega arith, left-more c.index_mut-group.result.now (λ one. absurd (omega arith)))

pub returns-then-group-gt0-clause-woken : goal.returns-then-group-gt0-clause-woken
returns-then-group-gt0-clause-woken c =
    let small = c.args.self.now.kept.within _ _ _ c.write.ensures.same (ap group_of c.requires.token) in let there = found _ _ _ small c.index_mut-group.ensures.value in
    let more = c.if-group-gt0.true in sym (ap Rattle.morsel_prims.specs.Counts.waits_if_last there ∙ waits-more c.index_mut-group.result.now (λ one. absurd (omega arith)))

pub returns-then-group-gt0-clause-others : goal.returns-then-group-gt0-clause-others
returns-then-group-gt0-clause-others c = only_group c.args.self.now.groups.items c.args.index _

pub invariant_of-self-2 : goal.invariant_of-self-2
invariant_of-self-2 c =
    let small = c.args.self.now.kept.within _ _ _ c.write.ensures.same (ap group_of c.requires.token) in let there = found _ _ _ small c.index_mut-group.ensures.value in let at : get_elem? c.args.self.now.roll.seat.me.0.rows (place_of_row c.args.mine.now.badge.views) ≡ some (Token c.args.index ∷ []) = c.write.ensures.same ∙ ap some c.requires.token in
    let some_left = counts_token _ _ _ _ _ c.args.self.now.kept at there in
    record { kept = one_token_less _ _ _ _ _ _ c.index_mut-group.result.now _ c.write.ensures.rows c.requires.token c.args.self.now.kept at small there (omega arith) }

pub returns-clause-counted : goal.returns-clause-counted
returns-clause-counted c =
    let small = c.args.self.now.kept.within _ _ _ c.write.ensures.same (ap group_of c.requires.token) in let there = found _ _ _ small c.index_mut-group.ensures.value in let at : get_elem? c.args.self.now.roll.seat.me.0.rows (place_of_row c.args.mine.now.badge.views) ≡ some (Token c.args.index ∷ []) = c.write.ensures.same ∙ ap some c.requires.token in
    let some_left = counts_token _ _ _ _ _ c.args.self.now.kept at there in let last = c.if-group-gt0.false in let nobody : c.take.new.self ≡ None = search rules in
    (c.index_mut-group.result.now, _, there, slice_get-set_same c.args.self.now.groups.items c.args.index _ small, omega arith, nobody ∙ left-last c.index_mut-group.result.now (omega arith))

pub returns-clause-woken : goal.returns-clause-woken
returns-clause-woken c =
    let small = c.args.self.now.kept.within _ _ _ c.write.ensures.same (ap group_of c.requires.token) in let there = found _ _ _ small c.index_mut-group.ensures.value in let at : get_elem? c.args.self.now.roll.seat.me.0.rows (place_of_row c.args.mine.now.badge.views) ≡ some (Token c.args.index ∷ []) = c.write.ensures.same ∙ ap some c.requires.token in
    let some_left = counts_token _ _ _ _ _ c.args.self.now.kept at there in let last = c.if-group-gt0.false in
    let took : c.take.result ≡ c.index_mut-group.result.now.waits = search rules in took ∙ sym (ap Rattle.morsel_prims.specs.Counts.waits_if_last there ∙ waits-last c.index_mut-group.result.now (omega arith))

pub returns-clause-others : goal.returns-clause-others
returns-clause-others c = only_group c.args.self.now.groups.items c.args.index _

use Rattle.std.proofs.Common.{rules, ap, sym, refl, ◌∙◌, subst, ◌≡◌, length, [], ◌∷◌, ◌++◌, None}
use Rattle.circular_buffer.proofs.Places.{slice_get-last}
use Rattle.morsel_prims.proofs.CountLemmas.{group_added, only_last}
use Rattle.morsel_prims.specs.Counts.{AreCounted, OnlyGroup, group_waits_of}
use Rattle.morsel_prims.specs.declared.plain_counts.GroupMark.TheVariants.{Group}
use Rattle.morsel_prims.proofs.plain_counts.PlainCounts.add.Goals as goal

pub invariant_of-self-2 : goal.invariant_of-self-2
invariant_of-self-2 c =
    let groups = c.reserve.ensures.items in let index : c.len-index.result ≡ length c.args.self.now.groups.items = search rules in
    record {
      kept = subst (λ gs. AreCounted c.begin-row.new.self.seat.me.0.rows gs) (sym (c.push_reserved.ensures.items ∙ ap (λ z. z ++ record { count = 0; waits = None } ∷ []) groups))
          (subst (λ rs. AreCounted rs (c.args.self.now.groups.items ++ record { count = 0; waits = None } ∷ [])) (sym (c.begin-row.ensures.rows ∙ ap (λ n. c.args.self.now.roll.seat.me.0.rows ++ (Group n ∷ []) ∷ []) index))
          (group_added _ _ _ c.args.self.now.kept refl));
    }

pub returns-clause-none : goal.returns-clause-none
returns-clause-none c =
    let index : c.len-index.result ≡ length c.reserve.new.self.items = search rules in
    (record { count = 0; waits = None }, ap (λ gs. Rattle.std.specs.Prelude.slice_get gs c.len-index.result) c.push_reserved.ensures.items ∙ slice_get-last c.reserve.new.self.items _ _ index, refl)

pub returns-clause-others : goal.returns-clause-others
returns-clause-others c =
    let groups = c.reserve.ensures.items in let index : c.len-index.result ≡ length c.args.self.now.groups.items = search rules in
    subst (λ n. OnlyGroup n c.args.self.now.groups.items c.push_reserved.new.self.items) (sym index)
    (subst (λ gs. OnlyGroup (length c.args.self.now.groups.items) c.args.self.now.groups.items gs) (sym (c.push_reserved.ensures.items ∙ ap (λ z. z ++ record { count = 0; waits = None } ∷ []) groups)) (only_last c.args.self.now.groups.items _))

pub returns-clause-nobody : goal.returns-clause-nobody
returns-clause-nobody c =
    let index : c.len-index.result ≡ length c.reserve.new.self.items = search rules in
    ap group_waits_of (ap (λ gs. Rattle.std.specs.Prelude.slice_get gs c.len-index.result) c.push_reserved.ensures.items ∙ slice_get-last c.reserve.new.self.items _ _ index)

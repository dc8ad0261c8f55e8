use Rattle.std.proofs.Common.{◌+◌, All, ap, sym, subst, ◌∙◌}
use Rattle.std.specs.Vec.{with_items}
use Rattle.std.proofs.lemmas.List.{with_items_is}
use Rattle.morsel_local.specs.Sweeps.{IsKept, all_woken, count_ended, spawned_bodies}
use Rattle.morsel_local.proofs.SweepLemmas.{count-all_woken, kept-all_woken, spawned-all_woken, swept-bound}
use Rattle.morsel_local.proofs.local.Local.sweep.Goals as goal

pub sweep_tasks-requires-clause-kept : goal.sweep_tasks-requires-clause-kept
sweep_tasks-requires-clause-kept g c =
    let home = ap (λ s. s.home) c.self.view_is ∙ sym c.requires.board ∙ sym (ap (λ s. g.B.Board.id s.cx.board) c.self.view_is) in
    let delivered = with_items_is c.self.inside.tasks c.deliver.new.tasks (c.deliver.ensures.len ∙ c.deref_mut.ensures.len) in
    let tasks = c.deref_mut-2.ensures.value ∙ delivered ∙ c.deliver.ensures.woken ∙ ap (λ ts. all_woken c.self.inside.cx.wakes.numbers ts) c.deref_mut.ensures.value in
    subst (λ h. All (IsKept g.T.Task h) c.deref_mut-2.result.now) home
    (subst (λ ts. All (IsKept g.T.Task (g.B.Board.id c.self.inside.home.value)) ts) (sym tasks)
    (kept-all_woken g.T.Task (g.B.Board.id c.self.inside.home.value) c.self.inside.cx.wakes.numbers c.self.inside.tasks.items c.self.invariant.0))

pub returns-clause-ended : goal.returns-clause-ended
returns-clause-ended g c =
    let delivered = with_items_is c.self.inside.tasks c.deliver.new.tasks (c.deliver.ensures.len ∙ c.deref_mut.ensures.len) in
    let swept = with_items_is (with_items c.self.inside.tasks c.deliver.new.tasks) c.sweep_tasks.new.tasks (c.sweep_tasks.ensures.len ∙ c.deref_mut-2.ensures.len) in
    let before = ap (λ ts. count_ended ts) (c.deref_mut-2.ensures.value ∙ delivered ∙ c.deliver.ensures.woken) ∙ count-all_woken c.self.inside.cx.wakes.numbers c.deref_mut.result.now
    ∙ ap (λ ts. count_ended ts) c.deref_mut.ensures.value ∙ ap (λ s. count_ended s.tasks) c.self.view_is in
    ap (λ ts. count_ended ts) swept ∙ c.sweep_tasks.ensures.ended ∙ ap (λ n. n + c.sweep_tasks.result) before

pub returns-clause-spawned : goal.returns-clause-spawned
returns-clause-spawned g c =
    let delivered = with_items_is c.self.inside.tasks c.deliver.new.tasks (c.deliver.ensures.len ∙ c.deref_mut.ensures.len) in
    let swept = with_items_is (with_items c.self.inside.tasks c.deliver.new.tasks) c.sweep_tasks.new.tasks (c.sweep_tasks.ensures.len ∙ c.deref_mut-2.ensures.len) in
    let before = ap (λ ts. spawned_bodies ts) (c.deref_mut-2.ensures.value ∙ delivered ∙ c.deliver.ensures.woken) ∙ spawned-all_woken c.self.inside.cx.wakes.numbers c.deref_mut.result.now
    ∙ ap (λ ts. spawned_bodies ts) c.deref_mut.ensures.value ∙ ap (λ s. spawned_bodies s.tasks) c.self.view_is in
    ap (λ ts. spawned_bodies ts) swept ∙ c.sweep_tasks.ensures.spawned ∙ before

pub returns-clause-same_bound : goal.returns-clause-same_bound
returns-clause-same_bound g c =
    swept-bound g.T.Task g.B.Board 1 c.deref_mut-2.result.now c.sweep_tasks.new.tasks _ c.sweep_tasks.new.cx c.sweep_tasks.ensures.swept ∙ ap (λ w. w.bound) c.deliver.ensures.empty ∙ ap (λ s. s.cx.wakes.bound) c.self.view_is

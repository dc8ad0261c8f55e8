use Rattle.std.proofs.Common.{rules, ◌≡◌, All, IfSome, ap, sym, subst, length, ◌∙◌}
use Rattle.std.specs.Vec.{with_items}
use Rattle.std.proofs.lemmas.List.{with_items_is}
use Rattle.morsel_local.specs.Sweeps.{IfTask, IsKept, changed, output_at, taken_out}
use Rattle.morsel_local.proofs.SweepLemmas.{kept-taken_out, length-changed, output-gives}
use Rattle.morsel_local.proofs.local.Local.take_out.Goals as goal

pub invariant_of-self : goal.invariant_of-self
invariant_of-self g c =
    let len : length c.take_at.new.tasks ≡ length c.deref_mut.result.now = ap (λ ts. length ts) c.take_at.ensures.taken ∙ length-changed taken_out c.args.task.0 c.deref_mut.result.now in
    let taken : c.take_at.new.tasks ≡ changed taken_out c.args.task.0 c.self.inside.tasks.items = c.take_at.ensures.taken ∙ ap (λ ts. changed taken_out c.args.task.0 ts) c.deref_mut.ensures.value in
    let items : (with_items c.self.inside.tasks c.take_at.new.tasks).items ≡ changed taken_out c.args.task.0 c.self.inside.tasks.items = with_items_is c.self.inside.tasks c.take_at.new.tasks (len ∙ c.deref_mut.ensures.len) ∙ taken in
    (subst (λ ts. All (IsKept g.T.Task (g.B.Board.id c.self.inside.home.value)) ts) (sym items) (kept-taken_out g.T.Task (g.B.Board.id c.self.inside.home.value) c.args.task.0 c.self.inside.tasks.items c.self.invariant.0), c.self.invariant.1, c.self.invariant.2, c.self.invariant.3)

pub returns-clause-gives : goal.returns-clause-gives
returns-clause-gives g c =
    let result : c.take_at.result ≡ output_at c.args.self.now.tasks c.args.task.0 = search rules in
    let all = subst (λ ts. All (IsKept g.T.Task (g.B.Board.id c.self.inside.home.value)) ts) (ap (λ s. s.tasks) c.self.view_is) c.self.invariant.0 in
    subst (λ r. IfSome r (λ out. IfTask c.args.self.now.tasks c.args.task.0 (λ spawned. g.T.Task.gives spawned out))) (sym result) (output-gives g.T.Task (g.B.Board.id c.self.inside.home.value) c.args.task.0 c.args.self.now.tasks all)

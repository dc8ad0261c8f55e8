use Rattle.std.proofs.Common.{sym, ◌∙◌, subst, ◌≡◌}
use Rattle.morsel_keys.specs.declared.reduction.Reduction.TheVariants as ops
use Rattle.morsel_states.specs.States.{IsFlat}
use Rattle.morsel_states.proofs.RowLemmas.{all_written}
use Rattle.morsel_states.proofs.states.States.count.Goals as goal

pub returns-clause-rows : goal.returns-clause-rows
returns-clause-rows c = λ at vs same.
    let written = all_written c.in-Lens.lens.len c.count_each.new.lens c.in-Lens.lens.items (sym c.deref_mut.ensures.len ∙ sym c.count_each.ensures.len) in
    let is_len : c.self.inside.op ≡ ops.Len = subst (λ f. IsFlat c.self.inside.op c.self.inside.kind f) c.in-Lens.is c.self.invariant in
    rw (← c.self.view_is, is_len, c.in-Lens.is, written, ← c.deref_mut.ensures.value) (c.count_each.ensures.rows at vs same)

pub returns-clause-room : goal.returns-clause-room
returns-clause-room c =
    let written = all_written c.in-Lens.lens.len c.count_each.new.lens c.in-Lens.lens.items (sym c.deref_mut.ensures.len ∙ sym c.count_each.ensures.len) in
    rw written c.count_each.ensures.room

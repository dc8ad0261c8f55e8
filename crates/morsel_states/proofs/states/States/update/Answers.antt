use Rattle.std.proofs.Common.{subst, sym, ◌∙◌, ◌≡◌}
use Rattle.morsel_keys.specs.declared.reduction.Reduction.TheVariants as ops
use Rattle.morsel_keys.specs.Reductions.{input_place}
use Rattle.morsel_states.specs.States.{IsFlat}
use Rattle.morsel_states.proofs.RowLemmas.{all_written}
use Rattle.morsel_states.proofs.states.States.update.Goals.{in-Lens, in-Sums, in-Bounds, in-Picks, in-Others}
use Rattle.morsel_states.proofs.states.States.update.Goals as goal

pub returns-clause-rows : goal.returns-clause-rows
returns-clause-rows c = elim c.match-self.branch [
  | in-Lens w ↦
      let is_len : c.self.inside.op ≡ ops.Len = subst (λ f. IsFlat c.self.inside.op c.self.inside.kind f) w.in-Lens.is c.self.invariant in
      let written = all_written w.in-Lens.lens.len w.count_each.new.lens w.in-Lens.lens.items (sym w.deref_mut.ensures.len ∙ sym w.count_each.ensures.len) in
      rw (w.result-is, w.self-inside-is, ← c.self.view_is, is_len, w.in-Lens.is, written, ← w.deref_mut.ensures.value) (w.count_each.ensures.rows (input_place c.args.place.0 c.args.place.1) c.args.column.now.values (sym c.requires.len))
  | in-Sums w ↦
      let is_sum = subst (λ f. IsFlat c.self.inside.op c.self.inside.kind f) w.in-Sums.is c.self.invariant in
      let written = all_written w.in-Sums.sums.len w.add_each.new.sums w.in-Sums.sums.items (sym w.deref_mut-in-Sums.ensures.len ∙ sym w.add_each.ensures.len) in
      rw (w.result-is, w.self-inside-is, ← c.self.view_is, is_sum.0, w.in-Sums.is, written, ← w.deref_mut-in-Sums.ensures.value, w.numbers_of.ensures.values) (w.add_each.ensures.rows (input_place c.args.place.0 c.args.place.1))
  | in-Bounds w ↦
      let written = all_written w.in-Bounds.bounds.len w.bound_each.new.bounds w.in-Bounds.bounds.items (sym w.deref_mut-in-Bounds.ensures.len ∙ sym w.bound_each.ensures.len) in
      rw (w.result-is, w.self-inside-is, ← c.self.view_is, w.in-Bounds.is, written, ← w.deref_mut-in-Bounds.ensures.value, w.numbers_of-in-Bounds.ensures.values) (w.bound_each.ensures.rows (input_place c.args.place.0 c.args.place.1))
  | in-Picks w ↦
      let written = all_written w.in-Picks.picks.len w.pick_each.new.picks w.in-Picks.picks.items (sym w.deref_mut-in-Picks.ensures.len ∙ sym w.pick_each.ensures.len) in
      rw (w.result-is, w.self-inside-is, ← c.self.view_is, w.in-Picks.is, written, ← w.deref_mut-in-Picks.ensures.value, w.numbers_of-in-Picks.ensures.values) w.pick_each.ensures.rows
  | in-Others w ↦
      let written = all_written w.in-Others.accs.len w.put_each.new.accs w.in-Others.accs.items (sym w.deref_mut-in-Others.ensures.len ∙ sym w.put_each.ensures.len) in
      rw (w.result-is, w.self-inside-is, ← c.self.view_is, w.in-Others.is, written, ← w.deref_mut-in-Others.ensures.value) w.put_each.ensures.rows
]

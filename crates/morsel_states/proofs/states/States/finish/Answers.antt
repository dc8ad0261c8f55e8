use Rattle.std.proofs.Common.{subst, ◌≡◌}
use Rattle.morsel_keys.specs.declared.reduction.Reduction.TheVariants as ops
use Rattle.morsel_states.specs.States.{IsFlat}
use Rattle.morsel_states.proofs.states.States.finish.Goals.{in-Lens, in-Sums, in-Bounds, in-Picks, in-Others}
use Rattle.morsel_states.proofs.states.States.finish.Goals as goal

pub returns-clause-of_type : goal.returns-clause-of_type
returns-clause-of_type c = elim c.match-self.branch [
  | in-Lens w ↦
      let is_len : c.self.inside.op ≡ ops.Len = subst (λ f. IsFlat c.self.inside.op c.self.inside.kind f) w.in-Lens.is c.self.invariant in
      rw (w.result-is, ← c.self.view_is, is_len) w.finish.ensures.of_type
  | in-Sums w ↦
      let is_sum = subst (λ f. IsFlat c.self.inside.op c.self.inside.kind f) w.in-Sums.is c.self.invariant in
      rw (w.result-is, ← c.self.view_is, is_sum.0) w.finish-in-Sums.ensures.of_type
  | in-Bounds w ↦
      let is_bound = subst (λ f. IsFlat c.self.inside.op c.self.inside.kind f) w.in-Bounds.is c.self.invariant in
      rw (w.result-is, ← c.self.view_is, is_bound.1) (w.finish-in-Bounds.ensures.of_type c.self.inside.op is_bound.0)
  | in-Picks w ↦
      let is_pick = subst (λ f. IsFlat c.self.inside.op c.self.inside.kind f) w.in-Picks.is c.self.invariant in
      rw (w.result-is, ← c.self.view_is, is_pick.1) (w.finish-in-Picks.ensures.of_type c.self.inside.op is_pick.0)
  | in-Others w ↦ rw (w.result-is, ← c.self.view_is) w.finish_at.ensures.of_type
]

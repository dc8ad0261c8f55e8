use Rattle.std.proofs.Common.{ap, sym, ◌∙◌, ◌-◌, slice_set}
use Rattle.morsel_local.specs.Sweeps.{output_if, taken_out}
use Rattle.morsel_local.proofs.SweepLemmas.{changed-zero, changed-set, changed-beyond, number_at-zero, number_at-set, number_at-beyond}
use Rattle.morsel_local.proofs.local_task.take_at.Goals as goal

pub returns-then-number-eq0 : goal.returns-then-number-eq0
returns-then-number-eq0 g c = record {
  value = sym (ap (λ t. output_if t) (number_at-zero c.args.number.0 c.args.tasks.now c.if-number-eq0.true));
  taken = changed-zero taken_out c.args.number.0 c.args.tasks.now c.if-number-eq0.true;
}

pub returns-then-tasks-at : goal.returns-then-tasks-at
returns-then-tasks-at g c = record {
  value = sym (ap (λ t. output_if t) (number_at-beyond c.args.number.0 c.args.tasks.now c.if-number-eq0.false c.if-tasks-at.true));
  taken = changed-beyond taken_out c.args.number.0 c.args.tasks.now c.if-number-eq0.false c.if-tasks-at.true;
}

pub returns-clause-value : goal.returns-clause-value
returns-clause-value g c = c.take_out.ensures.value ∙ sym (ap (λ t. output_if t) (number_at-set c.args.number.0 c.args.tasks.now c.index-tasks-at.result c.if-number-eq0.false c.if-tasks-at.false))

pub returns-clause-taken : goal.returns-clause-taken
returns-clause-taken g c = ap (λ t. slice_set c.args.tasks.now (c.args.number.0 - 1) t) c.take_out.ensures.taken ∙ changed-set taken_out c.args.number.0 c.args.tasks.now c.index-tasks-at.result c.if-number-eq0.false c.if-tasks-at.false

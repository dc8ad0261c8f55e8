use Rattle.std.proofs.Common.{◌∙◌, sym, arith}
use Rattle.morsel_exec.proofs.PermutationLemmas.{numbers_from_kept, numbers_from_dropped, numbers_from_end}
use Rattle.morsel_exec.proofs.permutation.next_number.Goals as goal

pub returns-then-number-plan-clause-number : goal.returns-then-number-plan-clause-number
returns-then-number-plan-clause-number c =
    let plan = c.args.plan in
    rw (c.move_on.ensures, c.mix-number.ensures)
    (sym c.loop-at.invariant ∙ numbers_from_kept plan c.loop-at.at (omega arith) (rw c.mix-number.ensures at c.if-number-plan.true))

pub loop-at-preserved : goal.loop-at-preserved
loop-at-preserved c =
    sym (numbers_from_dropped c.args.plan c.loop-at.at (omega arith) (rw c.mix-number.ensures at c.if-number-plan.false)) ∙ c.loop-at.invariant

pub returns-clause-number : goal.returns-clause-number
returns-clause-number c =
    let whole = c.requires.planned.within in (
      sym c.loop-at.invariant ∙ numbers_from_end c.args.plan c.loop-at.at (omega arith),
      numbers_from_end c.args.plan c.places-end.result c.places-end.ensures,
    )

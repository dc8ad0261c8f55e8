use Rattle.std.proofs.Common.{sym, ap, ◌∙◌}
use Rattle.morsel_group.specs.Asked.{kind_in}
use Rattle.morsel_group.proofs.PlanLemmas.{kind_of_drop}
use Rattle.morsel_group.proofs.plan.kind_in.Goals as goal

pub returns-in-Some : goal.returns-in-Some
returns-in-Some c = sym (ap (kind_in c.args.input.now) c.in-Some.is ∙ kind_of_drop c.args.input.now c.in-Some.at c.field.result.now c.field.ensures)

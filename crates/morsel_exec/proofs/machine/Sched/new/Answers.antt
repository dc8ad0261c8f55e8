use Rattle.std.proofs.Common.{rules}
use Rattle.morsel_exec.proofs.MachineLemmas.{opened_sound}
use Rattle.morsel_exec.proofs.machine.Sched.new.Goals as goal

pub invariant_of-result : goal.invariant_of-result
invariant_of-result c = opened_sound c.args.tasks c.args.ends _ (search rules)

pub returns-clause-held : goal.returns-clause-held
returns-clause-held c = (opened_sound c.args.tasks c.args.ends _ (search rules)).held

use Rattle.std.proofs.Common.{sym, subst}
use Rattle.morsel_exec.specs.Machine.{Sound}
use Rattle.morsel_exec.proofs.MachineLemmas.{event_sound}
use Rattle.morsel_exec.proofs.machine.Sched.step.Goals as goal

pub invariant_of-self : goal.invariant_of-self
invariant_of-self c = subst Sound c.make.ensures (event_sound c.args.event _ c.self.invariant (sym c.if-not-allows.ensures))

pub returns-clause-held : goal.returns-clause-held
returns-clause-held c = (subst Sound c.make.ensures (event_sound c.args.event _ c.self.invariant (sym c.if-not-allows.ensures))).held

use Rattle.std.proofs.Common.{refl}
use Rattle.morsel_scan.proofs.FilterLemmas.{filter-all, keeps_step}
use Rattle.morsel_scan.proofs.decode_steps.filtered.Goals as goal

pub returns-in-Some : goal.returns-in-Some
returns-in-Some c = rw c.in-Some.is (keeps_step c.in-Some.step c.args.frame c.apply.result (rw c.in-Some.is at c.requires) c.apply.ensures.ok c.apply.ensures.out_of_memory)

pub returns-in-None : goal.returns-in-None
returns-in-None c = rw c.in-None.is (refl, filter-all c.args.frame.rows)

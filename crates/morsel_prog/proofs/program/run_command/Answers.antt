use Rattle.morsel_prog.proofs.CommandLemmas.{runs-had}
use Rattle.morsel_prog.proofs.program.run_command.Goals as goal

pub returns : goal.returns
returns g c = runs-had _ _ _ _ c.in_ok-query.query c.in_ok-query.options c.run_counted.result c.in_ok-query.ensures c.run_counted.ensures

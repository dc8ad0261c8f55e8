use Rattle.morsel_prog.proofs.CommandLemmas.{runs_none}
use Rattle.morsel_prog.proofs.program.run_words.Goals as goal

pub returns-in-Err : goal.returns-in-Err
returns-in-Err g c = runs_none _ _ c.in-Err.fault c.in-Err.ensures

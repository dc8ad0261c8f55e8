use Rattle.morsel_prog_uses.proofs.tests.sweeps.answer.Given as goal

abbrev pub ghosts-counted : goal.ghosts-counted
ghosts-counted a = record { name = a.blank.name; parts = a.blank.parts }

use Rattle.morsel_local_uses.proofs.tests.a_task_beyond_the_capacity_comes_back.Given as goal

abbrev pub ghosts-spawned : goal.ghosts-spawned
ghosts-spawned g a = record { name = a.blank.name; parts = a.blank.parts }

use Rattle.morsel_local_uses.proofs.tests.a_task_that_is_ready_at_once_ends_in_the_first_sweep.Given as goal

abbrev pub ghosts-swept : goal.ghosts-swept
ghosts-swept g a = record { name = a.blank.name; parts = a.blank.parts }

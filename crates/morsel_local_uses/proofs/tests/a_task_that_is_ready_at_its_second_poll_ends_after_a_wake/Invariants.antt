use Rattle.morsel_local_uses.proofs.tests.a_task_that_is_ready_at_its_second_poll_ends_after_a_wake.Given as goal

abbrev pub ghosts-swept : goal.ghosts-swept
ghosts-swept g a = record { name = a.blank.name; parts = a.blank.parts }

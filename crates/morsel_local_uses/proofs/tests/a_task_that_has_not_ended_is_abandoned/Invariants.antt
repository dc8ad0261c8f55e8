use Rattle.morsel_local_uses.proofs.tests.a_task_that_has_not_ended_is_abandoned.Given as goal

abbrev pub ghosts-abandoned : goal.ghosts-abandoned
ghosts-abandoned g a = record { name = a.blank.name; parts = a.blank.parts }

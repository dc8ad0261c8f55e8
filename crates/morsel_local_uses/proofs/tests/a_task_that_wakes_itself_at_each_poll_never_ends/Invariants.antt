use Rattle.morsel_local_uses.proofs.tests.a_task_that_wakes_itself_at_each_poll_never_ends.Given as goal

abbrev pub ghosts-restless : goal.ghosts-restless
ghosts-restless g a = record { name = a.blank.name; parts = a.blank.parts }

use Rattle.morsel_local_uses.proofs.tests.an_output_is_taken_once_and_by_its_number.Given as goal

abbrev pub ghosts-taken : goal.ghosts-taken
ghosts-taken g a = record { name = a.blank.name; parts = a.blank.parts }

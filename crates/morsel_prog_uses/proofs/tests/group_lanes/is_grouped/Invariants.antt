use Rattle.morsel_prog_uses.proofs.tests.group_lanes.is_grouped.Given as goal

abbrev pub ghosts-counted_in : goal.ghosts-counted_in
ghosts-counted_in g a = record { name = a.blank.name; parts = a.blank.parts }

use Rattle.morsel_bench_lanes.proofs.idle.run.Given as goal

abbrev pub ghosts-run_tasks : goal.ghosts-run_tasks
ghosts-run_tasks g a = record { name = a.blank.name; parts = a.blank.parts }

use Rattle.adr_work_tests.proofs.dead.one_healthy_among_twenty_dead.Given as goal

abbrev pub ghosts-run_day : goal.ghosts-run_day
ghosts-run_day g a = record { name = a.blank.name; parts = a.blank.parts }

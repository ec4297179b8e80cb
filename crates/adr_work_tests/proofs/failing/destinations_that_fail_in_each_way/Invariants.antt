use Rattle.adr_work_tests.proofs.failing.destinations_that_fail_in_each_way.Given as goal

abbrev pub ghosts-run_day : goal.ghosts-run_day
ghosts-run_day g a = record { name = a.blank.name; parts = a.blank.parts }

use Rattle.adr_work_tests.proofs.stopped.a_stop_while_jobs_are_left.Given as goal

abbrev pub ghosts-run_day : goal.ghosts-run_day
ghosts-run_day g a = record { name = a.blank.name; parts = a.blank.parts }

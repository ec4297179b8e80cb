use Rattle.adr_work_tests.proofs.moments.a_job_is_settled_behind_its_exchange.Given as goal

abbrev pub ghosts-run_day : goal.ghosts-run_day
ghosts-run_day g a = record { name = a.blank.name; parts = a.blank.parts }

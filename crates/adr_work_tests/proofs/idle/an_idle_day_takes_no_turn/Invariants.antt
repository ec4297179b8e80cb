use Rattle.adr_work_tests.proofs.idle.an_idle_day_takes_no_turn.Given as goal

abbrev pub ghosts-run_day : goal.ghosts-run_day
ghosts-run_day g a = record { name = a.blank.name; parts = a.blank.parts }

use Rattle.adr_work_tests.proofs.reporting.reports_in_the_place_of_others.Given as goal

abbrev pub ghosts-run_day : goal.ghosts-run_day
ghosts-run_day g a = record { name = a.blank.name; parts = a.blank.parts }

use Rattle.adr_work_tests.proofs.halting.day_of.Given as goal

abbrev pub ghosts-run_with : goal.ghosts-run_with
ghosts-run_with g a = record { name = a.blank.name; parts = a.blank.parts }

use Rattle.adr_work_tests.proofs.held.two_senders_side_by_side.Given as goal

abbrev pub ghosts-run_day : goal.ghosts-run_day
ghosts-run_day g a = record { name = a.blank.name; parts = a.blank.parts }

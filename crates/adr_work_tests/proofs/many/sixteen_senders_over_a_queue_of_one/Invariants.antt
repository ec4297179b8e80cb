use Rattle.adr_work_tests.proofs.many.sixteen_senders_over_a_queue_of_one.Given as goal

abbrev pub ghosts-run_day : goal.ghosts-run_day
ghosts-run_day g a = record { name = a.blank.name; parts = a.blank.parts }

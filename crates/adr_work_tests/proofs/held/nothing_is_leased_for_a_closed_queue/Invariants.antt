use Rattle.adr_work_tests.proofs.held.nothing_is_leased_for_a_closed_queue.Given as goal

abbrev pub ghosts-steps_of_two : goal.ghosts-steps_of_two
ghosts-steps_of_two g a = record { name = a.blank.name; parts = a.blank.parts }

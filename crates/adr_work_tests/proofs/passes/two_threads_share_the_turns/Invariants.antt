use Rattle.adr_work_tests.proofs.passes.two_threads_share_the_turns.Given as goal

abbrev pub ghosts-shared_day : goal.ghosts-shared_day
ghosts-shared_day g a = record { name = a.blank.name; parts = a.blank.parts }

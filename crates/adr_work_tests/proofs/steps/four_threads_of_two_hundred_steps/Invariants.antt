use Rattle.adr_work_tests.proofs.steps.four_threads_of_two_hundred_steps.Given as goal

abbrev pub ghosts-share : goal.ghosts-share
ghosts-share g a = record { name = a.blank.name; parts = a.blank.parts }

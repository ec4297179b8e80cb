use Rattle.adr_work_tests.proofs.passes.two_passes_over_a_trail_of_one.Given as goal

abbrev pub ghosts-by_two : goal.ghosts-by_two
ghosts-by_two g a = record { name = a.blank.name; parts = a.blank.parts }

use Rattle.adr_call_tests.proofs.counted.reads_that_fail.Given as goal

abbrev pub ghosts-pulls_of_failing : goal.ghosts-pulls_of_failing
ghosts-pulls_of_failing g a = record { name = a.blank.name; parts = a.blank.parts }

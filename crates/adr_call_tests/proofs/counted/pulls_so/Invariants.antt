use Rattle.adr_call_tests.proofs.counted.pulls_so.Given as goal

abbrev pub ghosts-pulls_of_memory : goal.ghosts-pulls_of_memory
ghosts-pulls_of_memory a = record { name = a.blank.name; parts = a.blank.parts }

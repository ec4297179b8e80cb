use Rattle.adr_call_tests.proofs.counted.pushes_so.Given as goal

abbrev pub ghosts-pushes_to_memory : goal.ghosts-pushes_to_memory
ghosts-pushes_to_memory a = record { name = a.blank.name; parts = a.blank.parts }

use Rattle.adr_call_tests.proofs.counted.writes.Given as goal

abbrev pub ghosts-pushes_to_room : goal.ghosts-pushes_to_room
ghosts-pushes_to_room g a = record { name = a.blank.name; parts = a.blank.parts }

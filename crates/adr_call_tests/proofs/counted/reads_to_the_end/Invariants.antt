use Rattle.adr_call_tests.proofs.counted.reads_to_the_end.Given as goal

abbrev pub ghosts-pulls_of_cursor : goal.ghosts-pulls_of_cursor
ghosts-pulls_of_cursor g a = record { name = a.blank.name; parts = a.blank.parts }

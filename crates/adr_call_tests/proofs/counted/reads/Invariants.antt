use Rattle.adr_call_tests.proofs.counted.reads.Given as goal

abbrev pub ghosts-first_pull : goal.ghosts-first_pull
ghosts-first_pull g a = record { name = a.blank.name; parts = a.blank.parts }

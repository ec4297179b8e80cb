use Rattle.adr_work_tests.proofs.polled.a_scan_finds_what_is_gone.Given as goal

abbrev pub ghosts-rounds : goal.ghosts-rounds
ghosts-rounds g a = record { name = a.blank.name; parts = a.blank.parts }

use Rattle.adr_call_tests.proofs.scripts.reads.Given as goal

abbrev pub ghosts-run_to_memory : goal.ghosts-run_to_memory
ghosts-run_to_memory a = record { name = a.writes.name; parts = a.writes.parts }

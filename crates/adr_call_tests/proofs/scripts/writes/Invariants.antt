use Rattle.adr_call_tests.proofs.scripts.writes.Given as goal

abbrev pub ghosts-run_to_failing : goal.ghosts-run_to_failing
ghosts-run_to_failing a = record { name = a.writes.name; parts = a.writes.parts }

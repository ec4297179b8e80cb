use Rattle.adr_call_tests.proofs.scripts.writes_until.Given as goal

abbrev pub ghosts-run_to_failing_writer : goal.ghosts-run_to_failing_writer
ghosts-run_to_failing_writer a = record { name = a.writes.name; parts = a.writes.parts }

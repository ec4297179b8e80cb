use Rattle.adr_call_tests.proofs.scripts.run_to_failing.Given as goal

abbrev pub ghosts-run_into : goal.ghosts-run_into
ghosts-run_into g a = record { name = a.reads.name; parts = a.reads.parts }

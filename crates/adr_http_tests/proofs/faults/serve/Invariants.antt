use Rattle.adr_http_tests.proofs.faults.serve.Given as goal

abbrev pub ghosts-serve_over-K-Ledger : goal.ghosts-serve_over-K-Ledger
ghosts-serve_over-K-Ledger a = record { name = a.reads.name; parts = a.reads.parts }

abbrev pub ghosts-serve_over-L-Ledger : goal.ghosts-serve_over-L-Ledger
ghosts-serve_over-L-Ledger a = record { name = a.writes.name; parts = a.writes.parts }

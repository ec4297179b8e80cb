use Rattle.adr_server.proofs.connection.serve_connection.Given as goal

abbrev pub ghosts-serve_over-K-Ledger : goal.ghosts-serve_over-K-Ledger
ghosts-serve_over-K-Ledger g a = record { name = a.reads.name; parts = a.reads.parts }

abbrev pub ghosts-serve_over-M-Ledger : goal.ghosts-serve_over-M-Ledger
ghosts-serve_over-M-Ledger g a = record { name = a.writes.name; parts = a.writes.parts }

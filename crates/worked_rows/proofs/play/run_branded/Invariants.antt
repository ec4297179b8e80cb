use Rattle.worked_rows.proofs.play.run_branded.Given as goal

abbrev pub ghosts-run_over-K-Ledger : goal.ghosts-run_over-K-Ledger
ghosts-run_over-K-Ledger g a = record { name = a.reads.name; parts = a.reads.parts }

abbrev pub ghosts-run_over-L-Ledger : goal.ghosts-run_over-L-Ledger
ghosts-run_over-L-Ledger g a = record { name = a.writes.name; parts = a.writes.parts }

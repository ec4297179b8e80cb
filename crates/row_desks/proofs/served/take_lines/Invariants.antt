use Rattle.row_desks.proofs.served.take_lines.Given as goal

abbrev pub ghosts-script_over-K-Ledger : goal.ghosts-script_over-K-Ledger
ghosts-script_over-K-Ledger g a = record { name = a.reads.name; parts = a.reads.parts }

abbrev pub ghosts-script_over-L-Ledger : goal.ghosts-script_over-L-Ledger
ghosts-script_over-L-Ledger g a = record { name = a.writes.name; parts = a.writes.parts }

use Rattle.adr_server.proofs.exchange.exchange_paced.Given as goal

abbrev pub ghosts-exchange_over-K-Ledger : goal.ghosts-exchange_over-K-Ledger
ghosts-exchange_over-K-Ledger g a = record { name = a.reads.name; parts = a.reads.parts }

abbrev pub ghosts-exchange_over-M-Ledger : goal.ghosts-exchange_over-M-Ledger
ghosts-exchange_over-M-Ledger g a = record { name = a.writes.name; parts = a.writes.parts }

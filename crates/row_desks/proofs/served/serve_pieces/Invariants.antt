use Rattle.row_desks.proofs.served.serve_pieces.Given as goal

abbrev pub ghosts-serve_from : goal.ghosts-serve_from
ghosts-serve_from g a = record { name = a.writes.name; parts = a.writes.parts }

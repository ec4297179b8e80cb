use Rattle.row_desks.proofs.served.serve.Given as goal

abbrev pub ghosts-serve_reader : goal.ghosts-serve_reader
ghosts-serve_reader g a = record { name = a.reads.name; parts = a.reads.parts }

abbrev pub ghosts-serve_pieces : goal.ghosts-serve_pieces
ghosts-serve_pieces g a = record { name = a.reads.name; parts = a.reads.parts }

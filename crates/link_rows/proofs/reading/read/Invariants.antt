use Rattle.link_rows.proofs.reading.read.Given as goal

abbrev pub ghosts-read_reader : goal.ghosts-read_reader
ghosts-read_reader a = record { name = a.reads.name; parts = a.reads.parts }

abbrev pub ghosts-read_pieces : goal.ghosts-read_pieces
ghosts-read_pieces a = record { name = a.reads.name; parts = a.reads.parts }

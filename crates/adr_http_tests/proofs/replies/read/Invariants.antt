use Rattle.adr_http_tests.proofs.replies.read.Given as goal

abbrev pub ghosts-read_over : goal.ghosts-read_over
ghosts-read_over a = record { name = a.reads.name; parts = a.reads.parts }

use Rattle.adr_work_tests.proofs.enrolling.fifty_vens_each.Given as goal

abbrev pub ghosts-by_hand : goal.ghosts-by_hand
ghosts-by_hand g a = record { name = a.blank.name; parts = a.blank.parts }

abbrev pub ghosts-under_lock : goal.ghosts-under_lock
ghosts-under_lock g a = record { name = a.blank.name; parts = a.blank.parts }

use Rattle.adr_work_tests.proofs.held.an_empty_outbox_puts_nothing.Given as goal

abbrev pub ghosts-puts_none : goal.ghosts-puts_none
ghosts-puts_none g a = record { name = a.blank.name; parts = a.blank.parts }

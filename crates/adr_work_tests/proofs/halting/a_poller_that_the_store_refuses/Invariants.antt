use Rattle.adr_work_tests.proofs.halting.a_poller_that_the_store_refuses.Given as goal

abbrev pub ghosts-polled : goal.ghosts-polled
ghosts-polled g a = record { name = a.blank.name; parts = a.blank.parts }
